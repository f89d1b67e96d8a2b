use Rattle.std.proofs.Common.{◌≡◌, ◌≤◌, length}
use Rattle.std.specs.Prelude.{drop}
use Rattle.vl_mean.specs.Declarations.{class_of_attributes, joined_attributes}
use Rattle.vl_elab_decls.proofs.words.class_of_attributes.Given as goal

abbrev pub invariant-loop-place : goal.invariant-loop-place
invariant-loop-place l = record {
  within : l.place ≤ length l.all;
  class : l.class ≡ class_of_attributes l.fn.class (joined_attributes (drop l.place l.all));
}

abbrev pub decreases-loop-place : goal.decreases-loop-place
decreases-loop-place l = l.place
