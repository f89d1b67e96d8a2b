use Rattle.std.specs.Prelude.{◌≡◌, ◌&&◌, max, drop}
use Rattle.vl_mean.specs.Execution.{labels_sign, labels_size}
use Rattle.vl_mean.specs.FlatLaw.{flat_scopes}
use Rattle.vl_lower_stmt.proofs.context.with_labels.Given as goal

-- what the other labels make of the context
abbrev pub invariant-loop-label : goal.invariant-loop-label
invariant-loop-label l = record {
  width : max l.all.width (labels_size (flat_scopes l.decls) (drop l.label-index l.labels))
      ≡ max l.fn.context.width (labels_size (flat_scopes l.decls) l.labels);
  signed : (l.all.signed && labels_sign (flat_scopes l.decls) (drop l.label-index l.labels))
      ≡ (l.fn.context.signed && labels_sign (flat_scopes l.decls) l.labels);
}
