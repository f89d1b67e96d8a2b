use Rattle.std.proofs.Common.{◌≡◌}
use Rattle.std.specs.Prelude.{drop}
use Rattle.vl_elab_places.specs.Passing.{labels_passed}
use Rattle.vl_elab_places.proofs.stmts.pass_labels.Given as goal

abbrev pub invariant-loop-label : goal.invariant-loop-label
invariant-loop-label l = labels_passed (drop l.label-index l.all) l.at ≡ labels_passed l.all l.fn.start
