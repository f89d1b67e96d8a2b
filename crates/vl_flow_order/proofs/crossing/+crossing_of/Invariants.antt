use Rattle.std.proofs.Common.{length}
use Rattle.vl_flow_order.proofs.crossing.+crossing_of.Given as goal

abbrev pub decreases-crossing_of : goal.decreases-crossing_of
decreases-crossing_of l = length l.firsts.now
