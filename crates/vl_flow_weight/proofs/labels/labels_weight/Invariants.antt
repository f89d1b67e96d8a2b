use Rattle.std.proofs.Common.{drop}
use Rattle.vl_flow_spec.specs.Weight.{labels_weight}
use Rattle.vl_flow_weight.proofs.Adding.{Sums}
use Rattle.vl_flow_weight.proofs.labels.labels_weight.Given as goal

abbrev pub invariant-loop-label : goal.invariant-loop-label
invariant-loop-label l =
    Sums l.weight (labels_weight l.decls l.bits (drop l.label-index l.all)) (labels_weight l.decls l.bits l.all)
