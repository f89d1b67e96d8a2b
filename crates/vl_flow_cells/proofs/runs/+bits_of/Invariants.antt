use Rattle.std.proofs.Common.{length}
use Rattle.vl_flow_cells.proofs.runs.+bits_of.Given as goal

abbrev pub decreases-bits_of : goal.decreases-bits_of
decreases-bits_of l = length l.runs.now
