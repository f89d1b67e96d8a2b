use Rattle.std.specs.Prelude.{drop}
use Rattle.vl_mean.specs.Parts.{assignments}
use Rattle.vl_elab_emit.specs.Behind.{placed_at}
use Rattle.vl_elab_emit.proofs.Standing.{Rest}
use Rattle.vl_elab_emit.proofs.blocks.write_assignments.Given as goal

abbrev pub invariant-loop-assignment : goal.invariant-loop-assignment
invariant-loop-assignment l =
    Rest l.fn.draft (placed_at l.pos (assignments l.scopes l.all)) l.draft
    (placed_at l.pos (assignments l.scopes (drop l.assignment-index l.all)))
