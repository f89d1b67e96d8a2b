-- Meaning: How a number is written: IEEE 1364-2005, section 3.5.1, without real numbers. Blanks inside of a number are
-- spaces and tabs (rule of this project).
use Rattle.std.specs.Prelude.{
  ◌≡◌,
  ℕ,
  Bool,
  true,
  false,
  not,
  if◌then◌else◌,
  ◌&&◌,
  ◌||◌,
  nat_le,
  ◌==◌,
  List,
  [],
  ◌∷◌,
  ◌++◌,
}
use Rattle.std.specs.List.{list_all}
use Rattle.fv_text.specs.Name.{is_decimal_digit}
use Rattle.vl_token.specs.Bytes.{is_space, small, is_empty, first_is, behind}

-- a decimal digit or `_`
abbrev pub continues_decimal : ℕ → Bool
continues_decimal b = is_decimal_digit b || b == 95

-- a decimal digit, behind which further ones and `_` stand
abbrev pub is_decimal : List ℕ → Bool
is_decimal [] = false
is_decimal (b ∷ bs) = is_decimal_digit b && list_all continues_decimal bs

-- `x`, `z` or `?`
abbrev pub is_unknown : ℕ → Bool
is_unknown b = small b == 120

abbrev pub is_wild : ℕ → Bool
is_wild b = small b == 122 || b == 63

abbrev pub is_mark : ℕ → Bool
is_mark b = is_unknown b || is_wild b

abbrev pub is_hex_letter : ℕ → Bool
is_hex_letter b = nat_le 97 (small b) && nat_le (small b) 102

-- a digit of some base
abbrev pub is_digit : ℕ → Bool
is_digit b = is_decimal_digit b || is_hex_letter b || is_mark b

-- the letter of a base: `b`, `o`, `d` or `h`
abbrev pub is_base : ℕ → Bool
is_base b = small b == 98 || small b == 111 || small b == 100 || small b == 104

abbrev pub is_decimal_base : ℕ → Bool
is_decimal_base b = small b == 100

-- the letter `s`
abbrev pub is_sign : ℕ → Bool
is_sign b = small b == 115

-- what goes on with the digits of a base: in base d a `?` doesn't (rule of this project)
abbrev pub continues_digits : ℕ → Bool
continues_digits b = is_digit b || b == 95

abbrev pub continues_decimal_digits : ℕ → Bool
continues_decimal_digits b = if b == 63 then false else continues_digits b

abbrev pub goes_on : ℕ → ℕ → Bool
goes_on base = if is_decimal_base base then continues_decimal_digits else continues_digits

-- the parts of a based number: an optional size, blanks, `'`, an optional `s`, a base, blanks and digits. A number
-- without digits is written wrong, and yet is one
pub record Format : Type 0 where
  pub size : List ℕ
  pub before : List ℕ
  pub sign : List ℕ
  pub base : ℕ
  pub behind : List ℕ
  pub digits : List ℕ

pub data Numeral : Type 0 where
  plain : List ℕ → Numeral
  based : Format → Numeral

-- the text of a number
abbrev pub mark_text : Format → List ℕ
mark_text f = 39 ∷ (f.sign ++ (f.base ∷ (f.behind ++ f.digits)))

abbrev pub numeral_text : Numeral → List ℕ
numeral_text (plain digits) = digits
numeral_text (based f) = f.size ++ (f.before ++ mark_text f)

-- a base stands here, maybe behind an `s`
abbrev pub begins_base : List ℕ → Bool
begins_base [] = false
begins_base (b ∷ bs) = is_base b || (is_sign b && first_is is_base bs)

-- `'` and a base
abbrev pub begins_format : List ℕ → Bool
begins_format [] = false
begins_format (b ∷ bs) = b == 39 && begins_base bs

-- a size and the blanks behind it, or neither
abbrev pub is_size : List ℕ → List ℕ → Bool
is_size [] before = is_empty before
is_size (b ∷ bs) before = is_decimal (b ∷ bs) && list_all is_space before

abbrev pub is_sign_part : List ℕ → Bool
is_sign_part [] = true
is_sign_part (b ∷ bs) = is_sign b && is_empty bs

abbrev pub is_digits : ℕ → List ℕ → Bool
is_digits base [] = true
is_digits base (b ∷ bs) = is_digit b && list_all (goes_on base) bs

-- what stands behind the digits doesn't go on with them. Where there are none, it doesn't begin them
abbrev pub ends_digits : ℕ → List ℕ → List ℕ → Bool
ends_digits base [] rest = not (first_is is_space rest) && not (first_is is_digit rest)
ends_digits base (b ∷ bs) rest = not (first_is (goes_on base) rest)

pub record IsFormat (f : Format) (rest : List ℕ) : Type 0 where
  pub size : is_size f.size f.before ≡ true
  pub sign : is_sign_part f.sign ≡ true
  pub base : is_base f.base ≡ true
  pub blanks : list_all is_space f.behind ≡ true
  pub digits : is_digits f.base f.digits ≡ true
  pub ends : ends_digits f.base f.digits rest ≡ true

pub record IsPlain (digits rest : List ℕ) : Type 0 where
  pub decimal : is_decimal digits ≡ true
  pub ends : first_is continues_decimal rest ≡ false
  pub no_base : begins_format (behind is_space rest) ≡ false

-- the number stands before `rest`, and is all that may be read as one number there
abbrev pub IsNumeral : Numeral → List ℕ → Type 0
IsNumeral (plain digits) rest = IsPlain digits rest
IsNumeral (based f) rest = IsFormat f rest
