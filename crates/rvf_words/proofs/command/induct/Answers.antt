use Rattle.std.proofs.Common.{◌≡◌, ap, ap₂, ◌∙◌, codes}
use Rattle.std.proofs.lemmas.Result.{IfOk-weaker}
use Rattle.clap.specs.Words.{app_of, new_app, with_rule}
use Rattle.rvf_words.specs.Table.{with_options}
use Rattle.rvf_words.proofs.command.induct.Goals as goal

pub returns-clause-shape : goal.returns-clause-shape
returns-clause-shape c =
    let options_is : app_of c.in_ok-options.options ≡ with_options (new_app (codes "induct")) =
    c.in_ok-options.ensures.shape ∙ ap with_options c.new.ensures.app in
    IfOk-weaker c.with.result _ _ (λ m h. h ∙ ap₂ with_rule options_is c.choice.ensures.rule) c.with.ensures.shape
