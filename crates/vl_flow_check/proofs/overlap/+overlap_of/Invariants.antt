use Rattle.std.proofs.Common.{length}
use Rattle.vl_flow_check.proofs.overlap.+overlap_of.Given as goal

abbrev pub decreases-overlap_of : goal.decreases-overlap_of
decreases-overlap_of l = length l.shares.now
