-- Between functions: An index in 34 bits. Rule of this project.
use Rattle.std.specs.Prelude.{◌≡◌, ℕ, ◌-◌, ◌<◌, ◌^◌, ◌==◌, Bool, true, false}
use Rattle.std.specs.Prelude.{bit_and, if◌then◌else◌, MatchBool, ℤ, pos, negsuc, ◌&&◌, int_le, int_lt}
use Rattle.fv_bits.specs.Bits.{to_int, complement, part}

-- bounds have 32 signed bits, so that what is further from 0 is past them all
abbrev pub is_near : ℤ → Bool
is_near i = int_le (negsuc (2 ^ 32 - 1)) i && int_lt i (pos (2 ^ 32))

-- the index is near where the test is 1, and the number of 34 bits is it then
pub record IsCut (i : ℤ) (n near : ℕ) : Type 0 where
  pub fits : n < 2 ^ 34
  pub test : near < 2
  pub is : MatchBool (near == 1) ((to_int 34 n ≡ i) × (is_near i ≡ true)) (is_near i ≡ false)

-- the distance where it isn't below 0 and its index near, and else a number past all places
abbrev pub chosen : ℕ → ℕ → ℕ
chosen distance near =
    if bit_and (complement 1 (part 33 1 distance)) near == 1 then distance else 2 ^ 34 - 1
