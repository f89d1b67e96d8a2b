-- Meaning: What a written number means: IEEE 1364-2005, section 3.5.1. A number without size has 32 bits (rule of this
-- project), and no number has more than 128.
use Rattle.std.specs.Prelude.{
  ◌≡◌,
  ℕ,
  ◌+◌,
  ◌-◌,
  ◌*◌,
  ◌%◌,
  ◌^◌,
  Bool,
  true,
  false,
  not,
  if◌then◌else◌,
  ◌&&◌,
  ◌||◌,
  nat_le,
}
use Rattle.std.specs.Prelude.{nat_lt, ◌==◌, List, [], ◌∷◌, ◌++◌, length, fold, filter, replicate}
use Rattle.std.specs.List.{list_all, list_any}
use Rattle.fv_text.specs.Name.{is_decimal_digit}
use Rattle.fv_text.specs.declared.number.Number.{Number}
use Rattle.vl_token.specs.Bytes.{small, is_empty}
use Rattle.vl_token.specs.Numeral.{is_mark, is_unknown, is_wild, is_hex_letter, is_decimal_base, Format, Numeral}
use Rattle.vl_token.specs.Numeral.{plain, based}

-- digits without the `_` among them
abbrev pub digits_of : List ℕ → List ℕ
digits_of bytes = filter (λ b. not (b == 95)) bytes

abbrev pub radix : ℕ → ℕ
radix base = if small base == 98 then 2 else if small base == 111 then 8 else if small base == 100 then 10 else 16

-- what a digit counts; `x`, `z` and `?` count nothing
abbrev pub worth : ℕ → ℕ
worth b = if is_decimal_digit b then b - 48 else if is_hex_letter b then small b - 87 else 0

-- a number by its digits, the highest first
abbrev pub number_by : (ℕ → ℕ) → ℕ → List ℕ → ℕ
number_by count r digits = fold (λ n b. n * r + count b) 0 digits

-- one of the base's digits, or `x`, `z` or `?`
abbrev pub is_digit_in : ℕ → ℕ → Bool
is_digit_in r b = is_mark b || ((is_decimal_digit b || is_hex_letter b) && nat_lt (worth b) r)

abbrev pub number_of_size : List ℕ → ℕ
number_of_size size = number_by worth 10 (digits_of size)

abbrev pub width_of : List ℕ → ℕ
width_of [] = 32
width_of (b ∷ bs) = number_of_size (b ∷ bs)

-- a size that is 0 or above 128, or without size a value of more than 32 bits
abbrev pub is_misfit : Format → List ℕ → Bool
is_misfit f [] = nat_le (2 ^ 32) (number_by worth (radix f.base) (digits_of f.digits))
is_misfit f (b ∷ bs) = number_of_size (b ∷ bs) == 0 || nat_lt 128 (number_of_size (b ∷ bs))

-- in base d an `x`, `z` or `?` stands beside another digit
abbrev pub is_mixed : ℕ → List ℕ → Bool
is_mixed base digits = is_decimal_base base && (list_any is_mark digits && nat_lt 1 (length digits))

-- no digits, a digit that isn't of the base, or a mixture
abbrev pub is_misspelt : Format → Bool
is_misspelt f = is_empty f.digits || not (list_all (is_digit_in (radix f.base)) (digits_of f.digits))
    || is_mixed f.base (digits_of f.digits)

-- wrong digits, or a misfit
abbrev pub is_bad : Numeral → Bool
is_bad (plain digits) = nat_le (2 ^ 32) (number_by worth 10 (digits_of digits))
is_bad (based f) = is_misspelt f || is_misfit f f.size

-- the digit that fills a number up to its width: the first one if it is `x`, `z` or `?`, and else 0
abbrev pub filling : List ℕ → ℕ
filling [] = 48
filling (b ∷ bs) = if is_mark b then b else 48

-- the digits with as many filling digits before them as the number has bits
abbrev pub filled : ℕ → List ℕ → List ℕ
filled width digits = replicate width (filling digits) ++ digits

-- in base d a lone `x`, `z` or `?` stands for every bit, as a binary one that fills does
abbrev pub mark_radix : ℕ → ℕ
mark_radix base = if is_decimal_base base then 2 else radix base

-- the bits of such digits, each of which stands for all bits of its place
abbrev pub bits_of : (ℕ → Bool) → ℕ → ℕ → List ℕ → ℕ
bits_of test r width digits = number_by (λ b. if test b then r - 1 else 0) r (filled width digits) % 2 ^ width

pub record MeansPlain (digits : List ℕ) (n : Number) : Type 0 where
  pub sized : n.sized ≡ false
  pub signed : n.signed ≡ true
  pub width : n.width ≡ 32
  pub value : n.value ≡ number_by worth 10 (digits_of digits)
  pub wild : n.wild ≡ 0
  pub unknown : n.unknown ≡ 0

pub record MeansBased (f : Format) (n : Number) : Type 0 where
  pub sized : n.sized ≡ not (is_empty f.size)
  pub signed : n.signed ≡ not (is_empty f.sign)
  pub width : n.width ≡ width_of f.size
  pub value : n.value ≡ number_by worth (radix f.base) (digits_of f.digits) % 2 ^ n.width
  pub wild : n.wild ≡ bits_of is_wild (mark_radix f.base) n.width (digits_of f.digits)
  pub unknown : n.unknown ≡ bits_of is_unknown (mark_radix f.base) n.width (digits_of f.digits)

-- the written number is not bad, and means this one
abbrev pub Means : Numeral → Number → Type 0
Means (plain digits) n = (is_bad (plain digits) ≡ false) × MeansPlain digits n
Means (based f) n = (is_bad (based f) ≡ false) × MeansBased f n
