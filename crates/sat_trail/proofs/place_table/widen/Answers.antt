use Rattle.std.proofs.Common.{ap, ◌∙◌, get_or}
use Rattle.sat_trail.proofs.Codes.{widened}
use Rattle.sat_trail.proofs.place_table.widen.Goals as goal

pub loop-places-preserved : goal.loop-places-preserved
loop-places-preserved c = λ k.
    ap (λ z. get_or z k 0) c.in_ok-push.ensures.items ∙ widened c.loop-places.places.items k ∙ c.loop-places.invariant k
