-- Between functions: What can be asked of a word (rule of this project).
use Rattle.std.specs.Prelude.{ℕ, ◌+◌, ◌-◌, ◌^◌, Bool, true, ◌&&◌, nat_le, nat_lt}
use Rattle.rv_table.specs.declared.demand.Demand.{Demand}
use Rattle.rv_table.specs.declared.demand.Demand.TheVariants.{Is, Isnt, SomeOfSix}

-- the bits high:low are some of a word, and the number has no more bits
abbrev pub is_field : ℕ → ℕ → ℕ → Bool
is_field high low number = nat_le low high && (nat_lt high 32 && nat_lt number (2 ^ (high + 1 - low)))

abbrev pub is_lawful : Demand → Bool
is_lawful (Is high low number) = is_field high low number
is_lawful (Isnt high low number) = is_field high low number
is_lawful SomeOfSix = true
