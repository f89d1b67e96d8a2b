use Rattle.std.proofs.Common.{◌≡◌, ◌≤◌, length}
use Rattle.std.specs.Prelude.{drop}
use Rattle.vl_elab_check_item.specs.ItemParts.{names_fault}
use Rattle.vl_elab_check_item.proofs.declared.judge_names.Given as goal

abbrev pub invariant-loop-place : goal.invariant-loop-place
invariant-loop-place l = record {
  within : l.place ≤ length l.all;
  fault : names_fault l.names l.kind l.class l.shape (drop l.place l.all) ≡ l.fault;
}

abbrev pub decreases-loop-place : goal.decreases-loop-place
decreases-loop-place l = l.place
