-- Between functions: Indices as nodes. Rule of this project.
use Rattle.std.specs.Prelude.{◌≡◌, ℕ, ◌^◌, ◌≤◌, ◌*◌, Bool, nat_lt}
use Rattle.std.specs.Prelude.{if◌then◌else◌, MatchBool, ℤ, pos, negsuc, ◌-ℤ◌, ◌&&◌, int_lt}

-- how far an index is from a base, counted upwards or downwards
abbrev pub distance : Bool → ℤ → ℤ → ℤ
distance along base i = if along then i -ℤ base else base -ℤ i

-- no vector and no memory has so many places
abbrev pub past : ℕ
past = 2 ^ 30

-- The number is that of a place, where it is one from 0 on of which there may be so many, and else one past them all.
abbrev pub IsAddress : ℕ → ℤ → Type 0
IsAddress n (pos k) = MatchBool (nat_lt k past) (n ≡ k) (past ≤ n)
IsAddress n (negsuc k) = past ≤ n

-- The numbers of two nodes give the place: the first is its address, and the second that of what it is left to 0.
pub record GivePlace (up down : ℕ) (p : ℤ) : Type 0 where
  pub upwards : IsAddress up p
  pub downwards : IsAddress down (pos 0 -ℤ p)

-- bounds have 32 signed bits, and a part 128 at most
abbrev pub is_base : ℤ → Bool
is_base i = int_lt (negsuc (3 * 2 ^ 30)) i && int_lt i (pos (3 * 2 ^ 30))

-- no index of 32 signed bits is further from a bound of as many
abbrev pub is_place : ℤ → Bool
is_place p = int_lt (negsuc (2 ^ 33)) p && int_lt p (pos (2 ^ 33))
