use Rattle.std.specs.Prelude.{drop}
use Rattle.vl_mean.specs.Parts.{declares_all}
use Rattle.vl_elab_emit.specs.Behind.{MayStandBehind, unplaced}
use Rattle.vl_elab_emit.proofs.Standing.{Rest}
use Rattle.vl_elab_emit.proofs.declaring.write_declarations.Given as goal

abbrev pub invariant-loop-decl : goal.invariant-loop-decl
invariant-loop-decl l = record {
  may : MayStandBehind l.draft (declares_all l.path (drop l.decl-index l.all));
  rest : Rest l.fn.draft (unplaced (declares_all l.path l.all)) l.draft
      (unplaced (declares_all l.path (drop l.decl-index l.all)));
}
