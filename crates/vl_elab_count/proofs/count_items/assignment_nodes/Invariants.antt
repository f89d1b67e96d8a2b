use Rattle.std.proofs.Common.{◌≡◌, ◌≤◌, length}
use Rattle.std.specs.Prelude.{drop}
use Rattle.vl_mean.specs.ConstantFaults.{capped}
use Rattle.vl_elab_spec.specs.Counts.{assignment_nodes}
use Rattle.vl_elab_count.proofs.count_items.assignment_nodes.Given as goal

abbrev pub invariant-loop-place : goal.invariant-loop-place
invariant-loop-place l = record {
  within : l.place ≤ length l.all;
  total : l.total ≡ capped (assignment_nodes (drop l.place l.all));
}

abbrev pub decreases-loop-place : goal.decreases-loop-place
decreases-loop-place l = l.place
