use Rattle.std.proofs.Common.{drop}
use Rattle.vl_flow_spec.specs.Weight.{design_weight}
use Rattle.vl_flow_weight.proofs.Adding.{Sums}
use Rattle.vl_flow_weight.proofs.design.drivers_weight.Given as goal

abbrev pub invariant-loop-driver : goal.invariant-loop-driver
invariant-loop-driver l =
    Sums l.weight (design_weight l.decls (drop l.driver-index l.drivers)) (design_weight l.decls l.drivers)
