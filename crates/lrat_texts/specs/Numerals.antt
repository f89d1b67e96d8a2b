-- Between functions: Numbers as words: decimal digits, with or without `-` before them. Leading zeros are a rule of
-- this project.
use Rattle.std.specs.Prelude.{
  ◌≡◌,
  ℕ,
  ◌+◌,
  ◌-◌,
  ◌*◌,
  ◌^◌,
  ◌<◌,
  ◌==◌,
  true,
  if◌then◌else◌,
  List,
  [],
  ◌∷◌,
  length,
}
use Rattle.std.specs.Prelude.{ℤ, pos, neg_ℤ, unsigned_abs}
use Rattle.std.specs.List.{list_all}
use Rattle.fv_lines.specs.Numbers.{is_digit}
use Rattle.fv_lines.specs.Words.{begins_with}

-- what digits are worth: each counts by the power of ten of the number of digits behind it
abbrev pub worth : List ℕ → ℕ
worth [] = 0
worth (d ∷ ds) = (d - 48) * 10 ^ length ds + worth ds

-- one digit or more, worth n
pub record SaysNumber (word : List ℕ) (n : ℕ) : Type 0 where
  pub some : 0 < length word
  pub digits : list_all is_digit word ≡ true
  pub worth_is : worth word ≡ n

-- a word without the `-` before it
abbrev pub without_sign : List ℕ → List ℕ
without_sign [] = []
without_sign (b ∷ bs) = if b == 45 then bs else b ∷ bs

-- n, or -n where the word has a `-` before it
abbrev pub signed_as : List ℕ → ℕ → ℤ
signed_as word n = if begins_with 45 word then neg_ℤ (pos n) else pos n

-- a number with or without `-` before it
pub record SaysInteger (word : List ℕ) (l : ℤ) : Type 0 where
  pub size : SaysNumber (without_sign word) (unsigned_abs l)
  pub sign : l ≡ signed_as word (unsigned_abs l)
