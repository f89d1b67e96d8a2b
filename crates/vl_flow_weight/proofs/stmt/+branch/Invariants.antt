use Rattle.std.proofs.Common.{drop, take}
use Rattle.vl_tree.specs.Stmt.{stmts}
use Rattle.vl_tree.specs.StmtView.{arms}
use Rattle.vl_flow_spec.specs.Assigned.{all_assigned_names, arms_assigned_names}
use Rattle.vl_flow_spec.specs.Paths.{any_kind}
use Rattle.vl_flow_spec.specs.Weight.{arms_weight, stmts_weight}
use Rattle.vl_flow_order.specs.Sets.{some_has}
use Rattle.vl_flow_order.specs.Names.{AreNames}
use Rattle.vl_flow_weight.proofs.Adding.{Sums}
use Rattle.vl_flow_weight.proofs.stmt.+branch.Given as goal

abbrev pub invariant-sequence_branch-loop-part : goal.invariant-sequence_branch-loop-part
invariant-sequence_branch-loop-part l = record {
  total : Sums l.weight (stmts_weight l.decls (stmts (drop l.part-index l.all))) (stmts_weight l.decls (stmts l.all));
  assigned : AreNames l.decls (all_assigned_names any_kind (stmts (take l.part-index l.all))) (some_has l.sets.items);
}

abbrev pub invariant-arms_branch-loop-arm : goal.invariant-arms_branch-loop-arm
invariant-arms_branch-loop-arm l = record {
  total : Sums l.weight (arms_weight l.decls l.bits (arms (drop l.arm-index l.all)))
      (arms_weight l.decls l.bits (arms l.all));
  assigned : AreNames l.decls (arms_assigned_names any_kind (arms (take l.arm-index l.all))) (some_has l.sets.items);
}
