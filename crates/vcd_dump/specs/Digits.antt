-- Meaning: The codes of names and the binary digits of values in value-change dumps (IEEE 1364-2005, 18.2). Which code
-- a name has is a rule of this project.
use Rattle.std.specs.Prelude.{
  ℕ,
  zero,
  suc,
  ◌+◌,
  ◌/◌,
  ◌%◌,
  ◌≤◌,
  ◌≡◌,
  nat_lt,
  if◌then◌else◌,
  List,
  [],
  ◌∷◌,
  ◌++◌,
}

-- the digits of n in base 94, least digit first, digit k as the character 33 + k; at most so many behind the first
abbrev pub code_within : ℕ → ℕ → List ℕ
code_within zero n = (33 + n % 94) ∷ []
code_within (suc more) n =
    if nat_lt n 94 then (33 + n) ∷ [] else (33 + n % 94) ∷ code_within more (n / 94)

-- the code of the name with this index: n digits are always enough for n
unfoldable pub code : ℕ → List ℕ
code index = code_within index index

-- the digits of n in a base up to ten, highest digit first, without leading zeros; at most so many before the last
abbrev pub number_within : ℕ → ℕ → ℕ → List ℕ
number_within base zero n = (48 + n % base) ∷ []
number_within base (suc more) n =
    if nat_lt n base then (48 + n) ∷ [] else number_within base more (n / base) ++ (48 + n % base) ∷ []

-- the digits of n in the base, `0` for 0: n digits are always enough for n
unfoldable pub number : ℕ → ℕ → List ℕ
number base n = number_within base n n

-- the digits of n in base 2
abbrev pub binary : ℕ → List ℕ
binary n = number 2 n

-- digits of a number up to the most, and of none
abbrev pub Writes : ℕ → ℕ → List ℕ → ℕ → Type 0
Writes base most digits n = (n ≤ most) × (digits ≡ number base n)

abbrev pub WritesNone : ℕ → ℕ → List ℕ → Type 0
WritesNone base most digits = (n : ℕ) → n ≤ most → digits ≡ number base n → ⊥

-- the code of an index up to the most, and of none
abbrev pub Codes : ℕ → List ℕ → ℕ → Type 0
Codes most characters n = (n ≤ most) × (characters ≡ code n)

abbrev pub CodesNone : ℕ → List ℕ → Type 0
CodesNone most characters = (n : ℕ) → n ≤ most → characters ≡ code n → ⊥
