use Rattle.std.proofs.Common.{length}
use Rattle.fv_bit_sets.proofs.run.+run_in.Given as goal

abbrev pub decreases-run_in : goal.decreases-run_in
decreases-run_in l = length l.steps.now
