use Rattle.std.proofs.Common.{◌≡◌, ◌&&◌, drop}
use Rattle.vl_tree.specs.Expr.{exprs}
use Rattle.vl_tree.specs.ExprView.{selects}
use Rattle.vl_size.specs.Size.{are_constant}
use Rattle.vl_flow_spec.specs.Weight.{parts_weight, selects_weight}
use Rattle.vl_flow_weight.proofs.Adding.{Sums}
use Rattle.vl_flow_weight.proofs.expr.+weigh.Given as goal

abbrev pub invariant-weigh_parts-loop-part : goal.invariant-weigh_parts-loop-part
invariant-weigh_parts-loop-part l = record {
  total : Sums l.weight (parts_weight l.decls (exprs (drop l.part-index l.all))) (parts_weight l.decls (exprs l.all));
  constant : (l.are_constant && are_constant (exprs (drop l.part-index l.all))) ≡ are_constant (exprs l.all);
}

abbrev pub invariant-indices_weight-loop-select : goal.invariant-indices_weight-loop-select
invariant-indices_weight-loop-select l =
    Sums l.weight (selects_weight l.decls (selects (drop l.select-index l.all))) (selects_weight l.decls (selects l.all))
