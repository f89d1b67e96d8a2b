use Rattle.std.proofs.Common.{◌≡◌, drop}
use Rattle.std.specs.Prelude.{max}
use Rattle.vl_mean.specs.Execution.{labels_size}
use Rattle.vl_mean.specs.FlatLaw.{flat_scopes}
use Rattle.vl_flow_weight.proofs.labels.labels_bits.Given as goal

abbrev pub invariant-loop-label : goal.invariant-loop-label
invariant-loop-label l =
    max l.bits (labels_size (flat_scopes l.decls) (drop l.label-index l.all)) ≡ labels_size (flat_scopes l.decls) l.all
