-- Meaning: Names: simple identifiers of IEEE 1364-2005, section 3.7, that are no keywords. Bytes are ASCII codes.
use Rattle.std.specs.Prelude.{ℕ, Bool, false, ◌&&◌, ◌||◌, nat_le, ◌==◌, List, [], ◌∷◌, is_none}
use Rattle.std.specs.List.{list_all}
use Rattle.fv_text.specs.Keyword.{keyword_of}

abbrev pub is_letter : ℕ → Bool
is_letter b = (nat_le 65 b && nat_le b 90) || (nat_le 97 b && nat_le b 122)

abbrev pub is_decimal_digit : ℕ → Bool
is_decimal_digit b = nat_le 48 b && nat_le b 57

-- a letter or `_`
abbrev pub begins_word : ℕ → Bool
begins_word b = is_letter b || b == 95

-- a letter, a digit, `_` or `$`
abbrev pub continues_word : ℕ → Bool
continues_word b = begins_word b || is_decimal_digit b || b == 36

-- what a name or a keyword looks like
abbrev pub is_word : List ℕ → Bool
is_word [] = false
is_word (b ∷ bs) = begins_word b && list_all continues_word bs

unfoldable pub is_name : List ℕ → Bool
is_name text = is_word text && is_none (keyword_of text)
