-- Between functions: Words of memories by their places. IEEE 1364-2005, section 4.9.3.
use Rattle.std.specs.Prelude.{ℕ, Bool, if◌then◌else◌, ℤ, pos, ◌+ℤ◌, ◌-ℤ◌}

-- the index of the word so many places from one on, upwards or downwards
abbrev pub index_at : Bool → ℤ → ℕ → ℤ
index_at up first place = if up then first +ℤ pos place else first -ℤ pos place
