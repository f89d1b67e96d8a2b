use Rattle.std.proofs.Common.{length}
use Rattle.vl_flow_effects.proofs.joined.+one_of.Given as goal

abbrev pub decreases-one_of : goal.decreases-one_of
decreases-one_of l = length l.effects.now
