-- Between functions: Tables of four leaves as numbers of 16 bits, a bit for each row, and cubes of rows (rule of this
-- project; cubes and covers as in Brayton, Hachtel, McMullen and Sangiovanni-Vincentelli, 1984).
use Rattle.std.specs.Prelude.{ℕ, ◌+◌, ◌*◌, ◌==◌, Bool, true, not, ◌&&◌, List}
use Rattle.std.specs.Int.{bit_at}
use Rattle.std.specs.List.{list_any}
use Rattle.fv_bits.specs.Bits.{bit}
use Rattle.bb_cuts.specs.declared.leaves.Leaves.{Leaves}
use Rattle.bb_cuts.specs.declared.cube.Sign.{Sign}
use Rattle.bb_cuts.specs.declared.cube.Sign.TheVariants as s
use Rattle.bb_cuts.specs.declared.cube.Cube.{Cube}

-- the number of a row: its bits are the values of the leaves, the lowest that of the first one
abbrev pub row : Bool → Bool → Bool → Bool → ℕ
row a b c d = bit a + 2 * bit b + 4 * bit c + 8 * bit d

-- the row of leaves with these values
abbrev pub row_of : (ℕ → Bool) → Leaves → ℕ
row_of value leaves = row (value leaves.first) (value leaves.second) (value leaves.third) (value leaves.fourth)

-- a table is true in a row
abbrev pub has_row : ℕ → ℕ → Bool
has_row table r = bit_at table r == 1

abbrev pub sign_holds : Sign → Bool → Bool
sign_holds s.Absent b = true
sign_holds s.Plain b = b
sign_holds s.Turned b = not b

-- the leaves have the values that a cube asks for
abbrev pub cube_holds : (ℕ → Bool) → Leaves → Cube → Bool
cube_holds value leaves cube =
    (sign_holds cube.first (value leaves.first) && sign_holds cube.second (value leaves.second))
    && (sign_holds cube.third (value leaves.third) && sign_holds cube.fourth (value leaves.fourth))

-- those that one of some cubes asks for
abbrev pub cover_holds : (ℕ → Bool) → Leaves → List Cube → Bool
cover_holds value leaves cubes = list_any (cube_holds value leaves) cubes
