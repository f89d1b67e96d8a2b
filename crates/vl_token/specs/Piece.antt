-- Meaning: The pieces of a text: blanks, comments and tokens (IEEE 1364-2005, clause 3).
use Rattle.std.specs.Prelude.{
  ◌≡◌,
  ℕ,
  ◌≤◌,
  Bool,
  true,
  false,
  ◌&&◌,
  ◌||◌,
  ◌==◌,
  List,
  [],
  ◌∷◌,
  ◌++◌,
  length,
  nat_eq,
}
use Rattle.std.specs.List.{list_all, starts_with}
use Rattle.fv_text.specs.Name.{is_word, continues_word}
use Rattle.fv_text.specs.Symbol.{symbol_text}
use Rattle.fv_text.specs.declared.symbol.Symbol.{Symbol}
use Rattle.vl_token.specs.Bytes.{is_blank, is_line_end, stays_on_line, is_quotable, is_empty, first_is, ends_line}
use Rattle.vl_token.specs.Numeral.{Numeral, numeral_text, IsNumeral}

pub data Piece : Type 0 where
  blank : ℕ → Piece
  -- what stands behind `//`
  line_comment : List ℕ → Piece
  -- what stands between `/*` and `*/`
  block_comment : List ℕ → Piece
  -- a name or a keyword
  word : List ℕ → Piece
  number : Numeral → Piece
  sign : Symbol → Piece
  -- a system name, without `$`
  system : List ℕ → Piece
  -- a directive or a macro's use, without the backquote
  tick : List ℕ → Piece
  -- what stands between the quotes
  quoted : List ℕ → Piece
  -- a backslash directly before the line's end
  continue : Piece

abbrev pub text_of : Piece → List ℕ
text_of (blank b) = b ∷ []
text_of (line_comment body) = 47 ∷ (47 ∷ body)
text_of (block_comment body) = 47 ∷ (42 ∷ (body ++ (42 ∷ (47 ∷ []))))
text_of (word w) = w
text_of (number m) = numeral_text m
text_of (sign s) = symbol_text s
text_of (system w) = 36 ∷ w
text_of (tick w) = 96 ∷ w
text_of (quoted body) = 34 ∷ (body ++ (34 ∷ []))
text_of continue = 92 ∷ []

-- `*/` stands somewhere in the text
abbrev pub closes : List ℕ → Bool
closes [] = false
closes (b ∷ bs) = (b == 42 && first_is (λ c. c == 47) bs) || closes bs

-- `//` or `/*` stands here
abbrev pub begins_comment : List ℕ → Bool
begins_comment [] = false
begins_comment (b ∷ bs) = b == 47 && first_is (λ c. c == 47 || c == 42) bs

-- of the signs that fit here no one is longer, and no comment begins here
pub record IsLongest (s : Symbol) (bytes : List ℕ) : Type 0 where
  pub longest : (t : Symbol) → starts_with nat_eq bytes (symbol_text t) ≡ true
      → length (symbol_text t) ≤ length (symbol_text s)
  pub no_comment : begins_comment bytes ≡ false

-- the piece stands before `rest`, and is the longest that fits there
abbrev pub Stands : Piece → List ℕ → Type 0
Stands (blank b) rest = is_blank b ≡ true
Stands (line_comment body) rest = (list_all stays_on_line body ≡ true) × (ends_line rest ≡ true)
Stands (block_comment body) rest = closes body ≡ false
Stands (word w) rest = (is_word w ≡ true) × (first_is continues_word rest ≡ false)
Stands (number m) rest = IsNumeral m rest
Stands (sign s) rest = IsLongest s (symbol_text s ++ rest)
Stands (system w) rest =
    (is_empty w ≡ false) × (list_all continues_word w ≡ true) × (first_is continues_word rest ≡ false)
Stands (tick w) rest = (is_word w ≡ true) × (first_is continues_word rest ≡ false)
Stands (quoted body) rest = list_all is_quotable body ≡ true
Stands continue rest = first_is is_line_end rest ≡ true

-- the texts of pieces, joined
abbrev pub joined : List Piece → List ℕ
joined [] = []
joined (p ∷ ps) = text_of p ++ joined ps

-- the pieces stand one behind the other, and `rest` behind them
abbrev pub AllStand : List Piece → List ℕ → Type 0
AllStand [] rest = Unit {0}
AllStand (p ∷ ps) rest = Stands p (joined ps ++ rest) × AllStand ps rest
