use Rattle.std.proofs.Common.{◌≡◌, drop}
use Rattle.vl_tree.specs.StmtView.{arms}
use Rattle.vl_flow_spec.specs.Paths.{has_default}
use Rattle.vl_flow_effects.proofs.arms.has_default.Given as goal

abbrev pub invariant-loop-arm : goal.invariant-loop-arm
invariant-loop-arm l = has_default (arms (drop l.arm-index l.all)) ≡ has_default (arms l.all)
