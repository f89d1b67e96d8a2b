-- Between functions: The first piece of a text as a function. No public clause cites it: pieces are defined by what
-- may stand. Rule of this project.
use Rattle.std.specs.Prelude.{
  ℕ,
  if◌then◌else◌,
  ◌&&◌,
  ◌==◌,
  List,
  [],
  ◌∷◌,
  Option,
  Some,
  None,
  drop,
  length,
  find,
  nat_eq,
}
use Rattle.std.specs.List.{starts_with}
use Rattle.fv_text.specs.Name.{begins_word, continues_word, is_decimal_digit}
use Rattle.fv_text.specs.Symbol.{symbol_text}
use Rattle.fv_text.specs.declared.symbol.Symbol.{Symbol}
use Rattle.fv_text.specs.declared.symbol.Symbol.TheVariants as s
use Rattle.vl_token.specs.declared.sort.Sort.{Sort}
use Rattle.vl_token.specs.declared.sort.Sort.TheVariants as sort
use Rattle.vl_token.specs.Bytes.{is_blank, is_space, is_line_end, stays_on_line, is_quotable, first_is, run, behind}
use Rattle.vl_token.specs.Numeral.{is_base, is_sign, is_digit, goes_on, continues_decimal, Format, plain, based}
use Rattle.vl_token.specs.Piece.{Piece, blank, line_comment, block_comment, word, number, sign, system, tick, quoted}
use Rattle.vl_token.specs.Piece.{continue}

pub data Cut : Type 0 where
  ended : Cut
  piece : Piece → List ℕ → Cut
  open_comment : Cut
  open_string : Cut
  bad_char : Cut

-- by the first byte, which piece may begin
abbrev pub sort_of_mark : ℕ → Sort
sort_of_mark b =
    if b == 47 then sort.Slash else if b == 39 then sort.Apostrophe else if b == 36 then sort.Dollar
    else if b == 96 then sort.Backquote else if b == 34 then sort.Quote else if b == 92 then sort.Backslash
    else sort.Other

abbrev pub sort_of : ℕ → Sort
sort_of b = if begins_word b then sort.Word else if is_decimal_digit b then sort.Digit
    else if is_blank b then sort.Blank else sort_of_mark b

-- an `s` at the front, and what stands behind it
abbrev pub sign_front : List ℕ → List ℕ
sign_front [] = []
sign_front (b ∷ bs) = if is_sign b then b ∷ [] else []

abbrev pub sign_rest : List ℕ → List ℕ
sign_rest [] = []
sign_rest (b ∷ bs) = if is_sign b then bs else b ∷ bs

-- the digits at the front, and what stands behind them
abbrev pub digits_front : ℕ → List ℕ → List ℕ
digits_front base [] = []
digits_front base (b ∷ bs) = if is_digit b then b ∷ run (goes_on base) bs else []

abbrev pub digits_rest : ℕ → List ℕ → List ℕ
digits_rest base [] = []
digits_rest base (b ∷ bs) = if is_digit b then behind (goes_on base) bs else b ∷ bs

abbrev pub format_of : List ℕ → List ℕ → List ℕ → ℕ → List ℕ → Format
format_of size before mark base bytes =
    record {
      size = size;
      before = before;
      sign = mark;
      base = base;
      behind = run is_space bytes;
      digits = digits_front base (behind is_space bytes);
    }

abbrev pub base_at : List ℕ → List ℕ → List ℕ → List ℕ → Option (Format × List ℕ)
base_at size before mark [] = None
base_at size before mark (b ∷ bs) =
    if is_base b then Some (format_of size before mark b bs, digits_rest b (behind is_space bs)) else None

abbrev pub mark_at : List ℕ → List ℕ → List ℕ → Option (Format × List ℕ)
mark_at size before [] = None
mark_at size before (b ∷ bs) = if b == 39 then base_at size before (sign_front bs) (sign_rest bs) else None

-- the based number of this size that goes on here, and what stands behind it
unfoldable pub format_at : List ℕ → List ℕ → Option (Format × List ℕ)
format_at size bytes = mark_at size (run is_space bytes) (behind is_space bytes)

abbrev pub decimal_cut : List ℕ → List ℕ → Option (Format × List ℕ) → Cut
decimal_cut digits rest None = piece (number (plain digits)) rest
decimal_cut digits rest (Some x) = piece (number (based x.0)) x.1

abbrev pub based_cut : Option (Format × List ℕ) → Cut
based_cut None = bad_char
based_cut (Some x) = piece (number (based x.0)) x.1

-- the signs, longer ones first
abbrev pub signs : List Symbol
signs =
    s.EqualEqualEqual ∷ s.BangEqualEqual ∷ s.LessLessLess ∷ s.GreaterGreaterGreater ∷ s.OpenAttribute ∷
    s.CloseAttribute ∷ s.StarStar ∷ s.TildeAnd ∷ s.TildeOr ∷ s.TildeCaret ∷ s.CaretTilde ∷ s.AndAnd ∷
    s.OrOr ∷ s.LessEqual ∷ s.GreaterEqual ∷ s.EqualEqual ∷ s.BangEqual ∷ s.LessLess ∷ s.GreaterGreater ∷
    s.PlusColon ∷ s.MinusColon ∷ s.OpenParen ∷ s.CloseParen ∷ s.OpenBracket ∷ s.CloseBracket ∷
    s.OpenBrace ∷ s.CloseBrace ∷ s.Semicolon ∷ s.Colon ∷ s.Comma ∷ s.Dot ∷ s.Hash ∷ s.At ∷ s.Equal ∷
    s.Question ∷ s.Plus ∷ s.Minus ∷ s.Star ∷ s.Slash ∷ s.Percent ∷ s.Bang ∷ s.Tilde ∷ s.And ∷
    s.Or ∷ s.Caret ∷ s.Less ∷ s.Greater ∷ []

-- the longest sign that begins the text
unfoldable pub sign_at : List ℕ → Option Symbol
sign_at bytes = find (λ t. starts_with nat_eq bytes (symbol_text t)) signs

abbrev pub sign_cut : List ℕ → Option Symbol → Cut
sign_cut bytes None = bad_char
sign_cut bytes (Some t) = piece (sign t) (drop (length (symbol_text t)) bytes)

-- what stands before the first `*/`, and what behind it
abbrev pub more_inside : ℕ → Option (List ℕ × List ℕ) → Option (List ℕ × List ℕ)
more_inside b None = None
more_inside b (Some x) = Some (b ∷ x.0, x.1)

abbrev pub close_of : List ℕ → Option (List ℕ × List ℕ)
close_of [] = None
close_of (b ∷ bs) =
    if b == 42 && first_is (λ c. c == 47) bs then Some ([], drop 1 bs) else more_inside b (close_of bs)

abbrev pub block_cut : Option (List ℕ × List ℕ) → Cut
block_cut None = open_comment
block_cut (Some x) = piece (block_comment x.0) x.1

-- behind a `/`
abbrev pub slash_cut : List ℕ → Cut
slash_cut [] = sign_cut (47 ∷ []) (sign_at (47 ∷ []))
slash_cut (b ∷ bs) =
    if b == 47 then piece (line_comment (run stays_on_line bs)) (behind stays_on_line bs)
    else if b == 42 then block_cut (close_of bs) else sign_cut (47 ∷ (b ∷ bs)) (sign_at (47 ∷ (b ∷ bs)))

abbrev pub system_cut : List ℕ → List ℕ → Cut
system_cut [] rest = bad_char
system_cut (b ∷ bs) rest = piece (system (b ∷ bs)) rest

abbrev pub tick_cut : List ℕ → Cut
tick_cut bs = if first_is begins_word bs then piece (tick (run continues_word bs)) (behind continues_word bs)
    else bad_char

abbrev pub continue_cut : List ℕ → Cut
continue_cut bs = if first_is is_line_end bs then piece continue bs else bad_char

abbrev pub quoted_cut : List ℕ → List ℕ → Cut
quoted_cut body [] = open_string
quoted_cut body (b ∷ bs) = if b == 34 then piece (quoted body) bs else open_string

abbrev pub cut_by : Sort → ℕ → List ℕ → Cut
cut_by sort.Word b bs = piece (word (run continues_word (b ∷ bs))) (behind continues_word (b ∷ bs))
cut_by sort.Digit b bs =
    decimal_cut (run continues_decimal (b ∷ bs)) (behind continues_decimal (b ∷ bs))
    (format_at (run continues_decimal (b ∷ bs)) (behind continues_decimal (b ∷ bs)))
cut_by sort.Blank b bs = piece (blank b) bs
cut_by sort.Slash b bs = slash_cut bs
cut_by sort.Apostrophe b bs = based_cut (format_at [] (b ∷ bs))
cut_by sort.Dollar b bs = system_cut (run continues_word bs) (behind continues_word bs)
cut_by sort.Backquote b bs = tick_cut bs
cut_by sort.Quote b bs = quoted_cut (run is_quotable bs) (behind is_quotable bs)
cut_by sort.Backslash b bs = continue_cut bs
cut_by sort.Other b bs = sign_cut (b ∷ bs) (sign_at (b ∷ bs))

-- the first piece and what stands behind it, or why there is none
unfoldable pub first_cut : List ℕ → Cut
first_cut [] = ended
first_cut (b ∷ bs) = cut_by (sort_of b) b bs
