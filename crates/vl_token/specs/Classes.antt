-- Between functions: The classes of bytes that the code tells apart. Rule of this project.
use Rattle.std.specs.Prelude.{ℕ, Bool}
use Rattle.fv_text.specs.Name.{continues_word}
use Rattle.vl_token.specs.declared.class.Class.{Class}
use Rattle.vl_token.specs.declared.class.Class.TheVariants.{Word, Decimal, Space, Digits, DecimalDigits, Line, Quotable}
use Rattle.vl_token.specs.Bytes.{is_space, stays_on_line, is_quotable}
use Rattle.vl_token.specs.Numeral.{continues_decimal, continues_digits, continues_decimal_digits}

abbrev pub has : Class → ℕ → Bool
has Word = continues_word
has Decimal = continues_decimal
has Space = is_space
has Digits = continues_digits
has DecimalDigits = continues_decimal_digits
has Line = stays_on_line
has Quotable = is_quotable
