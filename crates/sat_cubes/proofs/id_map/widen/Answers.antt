use Rattle.std.proofs.Common.{ap, ◌∙◌}
use Rattle.sat_cubes.specs.Lifting.{listed}
use Rattle.sat_cubes.proofs.Liftings.{widened}
use Rattle.sat_cubes.proofs.id_map.widen.Goals as goal

pub loop-ids-preserved : goal.loop-ids-preserved
loop-ids-preserved c =
    ap listed c.in_ok-push.ensures.items ∙ widened c.loop-ids.ids.items ∙ c.loop-ids.invariant
