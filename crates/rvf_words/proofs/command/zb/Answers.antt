use Rattle.std.proofs.Common.{ap, ◌∙◌}
use Rattle.std.proofs.lemmas.Result.{IfOk-weaker}
use Rattle.rvf_words.specs.Table.{with_options}
use Rattle.rvf_words.proofs.command.zb.Goals as goal

pub returns-clause-shape : goal.returns-clause-shape
returns-clause-shape c =
    IfOk-weaker c.with_options.result _ _ (λ m h. h ∙ ap with_options c.new.ensures.app) c.with_options.ensures.shape
