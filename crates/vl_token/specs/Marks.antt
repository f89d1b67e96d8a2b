-- Between functions: The digits `x`, `z` and `?` as the code counts them.
use Rattle.std.specs.Prelude.{ℕ, ◌-◌, ◌^◌, Bool, if◌then◌else◌, List}
use Rattle.vl_token.specs.declared.number.Mark.{Mark}
use Rattle.vl_token.specs.declared.number.Mark.TheVariants.{Wild, Unknown}
use Rattle.vl_token.specs.Bytes.{first_is}
use Rattle.vl_token.specs.Numeral.{is_wild, is_unknown}

abbrev pub test_of : Mark → ℕ → Bool
test_of Wild = is_wild
test_of Unknown = is_unknown

abbrev pub mark_worth : (ℕ → Bool) → ℕ → ℕ → ℕ
mark_worth test r b = if test b then r - 1 else 0

abbrev pub all_bits : (ℕ → Bool) → List ℕ → ℕ
all_bits test digits = if first_is test digits then 2 ^ 128 - 1 else 0
