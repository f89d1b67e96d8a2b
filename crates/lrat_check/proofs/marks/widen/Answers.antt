use Rattle.std.proofs.Common.{ap, ◌∙◌}
use Rattle.lrat_check.specs.Marks.{is_near}
use Rattle.lrat_check.proofs.Marking.{widened}
use Rattle.lrat_check.proofs.marks.widen.Goals as goal

pub loop-table-preserved : goal.loop-table-preserved
loop-table-preserved c = λ k.
    ap (λ z. is_near z k) c.in_ok-push.ensures.items ∙ widened c.loop-table.table.items k ∙ c.loop-table.invariant k
