use Rattle.std.proofs.Common.{drop}
use Rattle.vl_tree.specs.Lval.{lvals}
use Rattle.vl_flow_spec.specs.Weight.{targets_weight}
use Rattle.vl_flow_weight.proofs.Adding.{Sums}
use Rattle.vl_flow_weight.proofs.target.+writes.Given as goal

abbrev pub invariant-loop-part : goal.invariant-loop-part
invariant-loop-part l =
    Sums l.weight (targets_weight l.decls (lvals (drop l.part-index l.part-items)))
    (targets_weight l.decls (lvals l.part-items))
