use Rattle.std.proofs.Common.{◌≡◌, ℕ, Bool, ◌||◌, drop}
use Rattle.bb_cuts.specs.declared.leaves.Leaves.{Leaves}
use Rattle.bb_cuts.specs.Rows.{row_of, has_row, cover_holds}
use Rattle.bb_cuts.proofs.cube.cover_rows.Given as goal

abbrev pub invariant-loop-cube : goal.invariant-loop-cube
invariant-loop-cube l = (value : ℕ → Bool) (leaves : Leaves)
    → (has_row l.rows (row_of value leaves) || cover_holds value leaves (drop l.cube-index l.cubes))
    ≡ cover_holds value leaves l.cubes
