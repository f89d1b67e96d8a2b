use Rattle.std.proofs.Common.{◌≡◌, ◌≤◌}
use Rattle.std.specs.Prelude.{drop, IfSome}
use Rattle.vl_tree.specs.StmtView.{arms}
use Rattle.vl_elab_spec.specs.Statements.{case_context}
use Rattle.vl_elab_check_stmt.proofs.contexts.with_arms.Given as goal

abbrev pub invariant-loop-arm : goal.invariant-loop-arm
invariant-loop-arm l = record {
  value : case_context l.names l.whole (arms (drop l.arm-index l.all)) ≡ case_context l.names l.fn.context (arms l.all);
  few : IfSome l.whole.size (λ w. w ≤ 128);
}
