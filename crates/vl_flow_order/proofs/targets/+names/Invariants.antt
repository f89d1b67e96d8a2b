use Rattle.std.proofs.Common.{take}
use Rattle.vl_tree.specs.Lval.{lvals}
use Rattle.vl_flow_spec.specs.Assigned.{all_target_names}
use Rattle.vl_flow_order.specs.Sets.{some_has}
use Rattle.vl_flow_order.specs.Names.{AreNames}
use Rattle.vl_flow_order.proofs.targets.+names.Given as goal

abbrev pub invariant-loop-part : goal.invariant-loop-part
invariant-loop-part l =
    AreNames l.decls (all_target_names (lvals (take l.part-index l.part-items))) (some_has l.sets.items)
