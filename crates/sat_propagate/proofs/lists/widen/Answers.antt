use Rattle.std.proofs.Common.{◌∙◌}
use Rattle.sat_propagate.proofs.ListSteps.{widened}
use Rattle.sat_propagate.proofs.lists.widen.Goals as goal

pub grow-preserved : goal.grow-preserved
grow-preserved c =
    widened c.grow.lists.items c.push.new.self.items c.new.result c.in_ok-push.ensures.items c.new.ensures.items
    ∙ c.grow.invariant
