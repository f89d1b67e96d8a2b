use Rattle.std.proofs.Common.{◌≡◌, ◌≤◌}
use Rattle.std.specs.Prelude.{drop, IfSome}
use Rattle.vl_elab_spec.specs.Statements.{with_labels}
use Rattle.vl_elab_check_stmt.proofs.contexts.with_labels.Given as goal

abbrev pub invariant-loop-label : goal.invariant-loop-label
invariant-loop-label l = record {
  value : with_labels l.names l.whole (drop l.label-index l.all) ≡ with_labels l.names l.fn.context l.all;
  few : IfSome l.whole.size (λ w. w ≤ 128);
}
