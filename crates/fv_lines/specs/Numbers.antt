-- Meaning: Numbers in decimal digits, of any length, with leading zeros too. Rule of this project.
use Rattle.std.specs.Prelude.{
  ℕ,
  ◌+◌,
  ◌-◌,
  ◌*◌,
  Bool,
  ◌&&◌,
  nat_le,
  if◌then◌else◌,
  ◌==◌,
  List,
  [],
  ◌∷◌,
  ℤ,
  pos,
  neg_ℤ,
}
use Rattle.std.specs.Prelude.{Option, Some, None, option_map}

-- `0` to `9`
abbrev pub is_digit : ℕ → Bool
is_digit b = nat_le 48 b && nat_le b 57

-- the number that digits continue; None where a byte is no digit
abbrev pub continued : ℕ → List ℕ → Option ℕ
continued n [] = Some n
continued n (d ∷ ds) = if is_digit d then continued (10 * n + (d - 48)) ds else None

-- the number of one digit or more
abbrev pub natural_of : List ℕ → Option ℕ
natural_of [] = None
natural_of (d ∷ ds) = continued 0 (d ∷ ds)

-- the number, if it is at most the limit
abbrev pub at_most : ℕ → Option ℕ → Option ℕ
at_most limit None = None
at_most limit (Some n) = if nat_le n limit then Some n else None

abbrev pub number_up_to : ℕ → List ℕ → Option ℕ
number_up_to limit word = at_most limit (natural_of word)

-- the number of a word, with or without `-` before it
abbrev pub signed : (List ℕ → Option ℕ) → List ℕ → Option ℤ
signed number [] = option_map pos (number [])
signed number (b ∷ bs) =
    if b == 45 then option_map (λ n. neg_ℤ (pos n)) (number bs)
    else option_map pos (number (b ∷ bs))
