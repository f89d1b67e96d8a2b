use Rattle.std.proofs.Common.{◌≤◌, length}
use Rattle.std.specs.Prelude.{drop}
use Rattle.vl_elab_names.specs.Known.{AreNames}
use Rattle.vl_elab_names.proofs.names.set_of.Given as goal

abbrev pub invariant-loop-place : goal.invariant-loop-place
invariant-loop-place l = record {
  within : l.place ≤ length l.all;
  names : AreNames l.set (drop l.place l.all);
}

abbrev pub decreases-loop-place : goal.decreases-loop-place
decreases-loop-place l = l.place
