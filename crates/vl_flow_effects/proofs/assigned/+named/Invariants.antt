use Rattle.std.proofs.Common.{take}
use Rattle.vl_tree.specs.Stmt.{stmts}
use Rattle.vl_tree.specs.StmtView.{arms}
use Rattle.vl_flow_spec.specs.Assigned.{all_assigned_names, arms_assigned_names}
use Rattle.vl_flow_order.specs.Names.{AreNames}
use Rattle.vl_flow_order.specs.Sets.{some_has}
use Rattle.vl_flow_effects.specs.Assigning.{is_kind}
use Rattle.vl_flow_effects.proofs.assigned.+named.Given as goal

abbrev pub invariant-sequence_names-loop-part : goal.invariant-sequence_names-loop-part
invariant-sequence_names-loop-part l =
    AreNames l.decls (all_assigned_names (is_kind l.counted) (stmts (take l.part-index l.all))) (some_has l.sets.items)

abbrev pub invariant-arms_names-loop-arm : goal.invariant-arms_names-loop-arm
invariant-arms_names-loop-arm l =
    AreNames l.decls (arms_assigned_names (is_kind l.counted) (arms (take l.arm-index l.all))) (some_has l.sets.items)
