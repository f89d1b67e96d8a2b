use Rattle.std.specs.Prelude.{drop}
use Rattle.vl_mean.specs.Parts.{values_of}
use Rattle.vl_elab_emit.specs.Behind.{MayStandBehind}
use Rattle.vl_elab_emit.specs.OwnParts.{placed_values}
use Rattle.vl_elab_emit.proofs.Standing.{Rest}
use Rattle.vl_elab_emit.proofs.values.write_values.Given as goal

abbrev pub invariant-loop-name : goal.invariant-loop-name
invariant-loop-name l = record {
  may : MayStandBehind l.draft (values_of l.scopes l.kind (drop l.name-index l.all));
  rest : Rest l.fn.draft (placed_values l.scopes l.kind l.all) l.draft
      (placed_values l.scopes l.kind (drop l.name-index l.all));
}
