use Rattle.std.proofs.Common.{◌≡◌, ap, ap₂, ◌∙◌, codes}
use Rattle.std.proofs.lemmas.Result.{IfOk-weaker}
use Rattle.clap.specs.Words.{App, app_of, new_app, with_rule}
use Rattle.rvf_words.specs.Table.{choice, operand}
use Rattle.rvf_words.proofs.command.toaig.Goals as goal

abbrev config : App
config = with_rule (new_app (codes "toaig")) (operand (codes "cfg"))

abbrev check : App
check = with_rule config (operand (codes "check"))

abbrev file : App
file = with_rule check (operand (codes "file"))

abbrev core : App
core = with_rule file (choice (codes "core") (codes "core"))

pub returns-clause-shape : goal.returns-clause-shape
returns-clause-shape c =
    let config_is : app_of c.in_ok-config.config ≡ config =
    c.in_ok-config.ensures.shape ∙ ap₂ with_rule c.new.ensures.app c.operand.ensures.rule in
    let check_is : app_of c.in_ok-check.check ≡ check =
    c.in_ok-check.ensures.shape ∙ ap₂ with_rule config_is c.operand-2.ensures.rule in
    let file_is : app_of c.in_ok-file.file ≡ file =
    c.in_ok-file.ensures.shape ∙ ap₂ with_rule check_is c.operand-3.ensures.rule in
    let core_is : app_of c.in_ok-core.core ≡ core =
    c.in_ok-core.ensures.shape ∙ ap₂ with_rule file_is c.choice.ensures.rule in
    IfOk-weaker c.with-5.result _ _ (λ m h. h ∙ ap₂ with_rule core_is c.choice-2.ensures.rule) c.with-5.ensures.shape
