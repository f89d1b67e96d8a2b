-- Between functions: Cubes as clauses over the variables of leaves (rule of this project). Literals are those of the
-- AIGER format, with variables for nodes; variable 0 is false.
use Rattle.std.specs.Prelude.{◌≡◌, ℕ, ◌+◌, ◌*◌, Bool, not, List, [], ◌∷◌, ◌++◌, ℤ}
use Rattle.bb_clauses.specs.Clauses.{clause_of}
use Rattle.bb_cuts.specs.Rows.{cover_holds, has_row, row_of}
use Rattle.bb_cuts.specs.declared.leaves.Leaves.{Leaves}
use Rattle.bb_cuts.specs.declared.cube.Sign.{Sign}
use Rattle.bb_cuts.specs.declared.cube.Sign.TheVariants as s
use Rattle.bb_cuts.specs.declared.cube.Cube.{Cube}

-- the literal that is true where a leaf hasn't the value that is asked for
abbrev pub sign_literal : Sign → ℕ → ℕ
sign_literal s.Absent var = 0
sign_literal s.Plain var = 2 * var + 1
sign_literal s.Turned var = 2 * var

-- a cube doesn't hold, or a literal is true
abbrev pub cube_clause : Leaves → ℕ → Cube → List (List ℤ)
cube_clause vars out c =
    clause_of []
    (sign_literal c.first vars.first ∷ sign_literal c.second vars.second ∷ sign_literal c.third vars.third
    ∷ sign_literal c.fourth vars.fourth ∷ out ∷ [])

-- no cube holds, or a literal is true
abbrev pub cover_clauses : Leaves → ℕ → List Cube → List (List ℤ)
cover_clauses vars out [] = []
cover_clauses vars out (c ∷ cs) = cube_clause vars out c ++ cover_clauses vars out cs

-- a variable is true where one of the cubes `on` holds, and false where one of the cubes `off` does
abbrev pub both_clauses : Leaves → ℕ → List Cube → List Cube → List (List ℤ)
both_clauses vars var on off = cover_clauses vars (2 * var) on ++ cover_clauses vars (2 * var + 1) off

-- cubes have the rows in which a table is true, and other cubes those in which it is false
pub record IsCover (value : ℕ → Bool) (leaves : Leaves) (on off : List Cube) (table : ℕ) : Type 0 where
  pub true_in : cover_holds value leaves on ≡ has_row table (row_of value leaves)
  pub false_in : cover_holds value leaves off ≡ not (has_row table (row_of value leaves))
