use Rattle.std.proofs.Common.{◌≡◌, ◌≤◌, length}
use Rattle.std.specs.Prelude.{drop}
use Rattle.vl_mean.specs.ConstantFaults.{capped}
use Rattle.vl_elab_count.specs.Counts.{names_count}
use Rattle.vl_elab_count.proofs.names.all_names.Given as goal

abbrev pub invariant-loop-place : goal.invariant-loop-place
invariant-loop-place l = record {
  within : l.place ≤ length l.all;
  total : l.total ≡ capped (names_count l.numbers (drop l.place l.all));
}

abbrev pub decreases-loop-place : goal.decreases-loop-place
decreases-loop-place l = l.place
