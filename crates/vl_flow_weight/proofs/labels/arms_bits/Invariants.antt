use Rattle.std.proofs.Common.{◌≡◌, drop}
use Rattle.std.specs.Prelude.{max}
use Rattle.vl_tree.specs.StmtView.{arms}
use Rattle.vl_mean.specs.Execution.{arms_size}
use Rattle.vl_mean.specs.FlatLaw.{flat_scopes}
use Rattle.vl_flow_weight.proofs.labels.arms_bits.Given as goal

abbrev pub invariant-loop-arm : goal.invariant-loop-arm
invariant-loop-arm l =
    max l.bits (arms_size (flat_scopes l.decls) (arms (drop l.arm-index l.all)))
    ≡ arms_size (flat_scopes l.decls) (arms l.all)
