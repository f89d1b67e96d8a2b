-- Between functions: Indices that may lie in a vector or a memory. Rule of this project.
use Rattle.std.specs.Prelude.{◌-◌, ◌^◌, Bool, ◌&&◌, ◌||◌, ℤ, pos, negsuc, int_le, int_lt}

-- bounds have 64 bits, so that what is further from 0 is past them all
abbrev pub is_near : ℤ → Bool
is_near i = int_le (negsuc (2 ^ 100 - 1)) i && int_lt i (pos (2 ^ 100))

-- so far from a vector that no 128 bits from the place on are of it
abbrev pub is_far : ℤ → Bool
is_far p = int_le (pos 128) p || int_lt p (negsuc 127)
