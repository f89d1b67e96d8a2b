-- Meaning: Bytes and runs of bytes. A byte is an ASCII code. IEEE 1364-2005, clause 3.
use Rattle.std.specs.Prelude.{
  ℕ,
  ◌+◌,
  Bool,
  true,
  false,
  if◌then◌else◌,
  ◌&&◌,
  ◌||◌,
  nat_le,
  ◌==◌,
  List,
  [],
  ◌∷◌,
}

-- space, tab, carriage return, line feed or form feed (IEEE 1364-2005, section 3.2, and the carriage return)
abbrev pub is_blank : ℕ → Bool
is_blank b = b == 32 || b == 9 || b == 13 || b == 10 || b == 12

-- what may stand inside of a number
abbrev pub is_space : ℕ → Bool
is_space b = b == 32 || b == 9

abbrev pub is_line_end : ℕ → Bool
is_line_end b = b == 10

abbrev pub stays_on_line : ℕ → Bool
stays_on_line b = if b == 10 then false else true

-- what may stand in a string
abbrev pub is_quotable : ℕ → Bool
is_quotable b = if b == 34 then false else if b == 10 then false else true

-- a capital as the small letter
abbrev pub small : ℕ → ℕ
small b = if nat_le 65 b && nat_le b 90 then b + 32 else b

abbrev pub is_empty : List ℕ → Bool
is_empty [] = true
is_empty (b ∷ bs) = false

abbrev pub first_is : (ℕ → Bool) → List ℕ → Bool
first_is p [] = false
first_is p (b ∷ bs) = p b

-- the text ends here, or its line does
abbrev pub ends_line : List ℕ → Bool
ends_line [] = true
ends_line (b ∷ bs) = b == 10

-- the longest front of such bytes, and what stands behind it
abbrev pub run : (ℕ → Bool) → List ℕ → List ℕ
run p [] = []
run p (b ∷ bs) = if p b then b ∷ run p bs else []

abbrev pub behind : (ℕ → Bool) → List ℕ → List ℕ
behind p [] = []
behind p (b ∷ bs) = if p b then behind p bs else b ∷ bs
