-- Between functions: Indices of 64 bits, as bounds have. Rule of this project.
use Rattle.std.specs.Prelude.{◌-◌, ◌^◌, Bool, ◌&&◌, ℤ, pos, negsuc, int_le, int_lt}

abbrev pub is_narrow : ℤ → Bool
is_narrow i = int_le (negsuc (2 ^ 63 - 1)) i && int_lt i (pos (2 ^ 63))
