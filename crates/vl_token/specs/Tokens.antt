-- Meaning: The tokens of a text. IEEE 1364-2005, clause 3.
use Rattle.std.specs.Prelude.{
  ◌≡◌,
  ℕ,
  ◌≤◌,
  Bool,
  true,
  false,
  nat_le,
  nat_lt,
  List,
  [],
  ◌∷◌,
  length,
  Some,
  None,
}
use Rattle.std.specs.List.{list_all}
use Rattle.fv_text.specs.Keyword.{keyword_of}
use Rattle.fv_text.specs.declared.kind.Kind.{Kind}
use Rattle.fv_text.specs.declared.kind.Kind.TheVariants as k
use Rattle.fv_text.specs.declared.pos.Pos.{Pos}
use Rattle.fv_text.specs.declared.token.Token.{Token}
use Rattle.vl_token.specs.Number.{Means}
use Rattle.vl_token.specs.Piece.{Piece, blank, line_comment, block_comment, word, number, sign, system, tick, quoted}
use Rattle.vl_token.specs.Piece.{continue, text_of, joined, AllStand}
use Rattle.vl_token.specs.Place.{place_after, start_of}

abbrev pub is_ascii : ℕ → Bool
is_ascii b = nat_lt b 128

abbrev pub is_beyond_ascii : ℕ → Bool
is_beyond_ascii b = nat_le 128 b

-- a piece that is a token, neither a blank nor a comment
abbrev pub is_token : Piece → Bool
is_token (blank b) = false
is_token (line_comment body) = false
is_token (block_comment body) = false
is_token p = true

-- the kind of token that a piece is. A word is a keyword where it is one, and else a name
abbrev pub IsKind : Piece → Kind → Type 0
IsKind (word w) (k.Name text) = (text ≡ w) × (keyword_of w ≡ None)
IsKind (word w) (k.Keyword keyword) = keyword_of w ≡ Some keyword
IsKind (number m) (k.Number n) = Means m n
IsKind (sign s) (k.Symbol t) = t ≡ s
IsKind (system w) (k.System text) = text ≡ w
IsKind (tick w) (k.Tick text) = text ≡ w
IsKind (quoted body) k.Quoted = Unit {0}
IsKind continue k.Continue = Unit {0}
IsKind p kind = ⊥

pub record IsFirstToken (p : Piece) (at : Pos) (t : Token) : Type 0 where
  pub kind : IsKind p t.kind
  pub pos : t.pos ≡ at

-- the first of the tokens is this piece at its place, where the piece is a token, and the others follow
abbrev pub Takes : Bool → Piece → Pos → (List Token → Type 0) → List Token → Type 0
Takes false p at Others ts = Others ts
Takes true p at Others [] = ⊥
Takes true p at Others (t ∷ ts) = IsFirstToken p at t × Others ts

-- the tokens among the pieces, each at the place where its text begins
abbrev pub AreOf : List Piece → Pos → List Token → Type 0
AreOf [] at ts = ts ≡ []
AreOf (p ∷ ps) at ts = Takes (is_token p) p at (AreOf ps (place_after at (text_of p))) ts

-- the tokens of a text whose first line has the number `line`: those among pieces whose texts, joined, are the text,
-- and each of which is the longest that fits at its place. The text is ASCII, and has at most 2,000,000 tokens (rules
-- of this project)
pub record AreTokens (file line : ℕ) (bytes : List ℕ) (ts : List Token) : Type 0 where
  pub pieces : List Piece
  pub same : bytes ≡ joined pieces
  pub stand : AllStand pieces []
  pub tokens : AreOf pieces (start_of file line) ts
  pub ascii : list_all is_ascii bytes ≡ true
  pub few : length ts ≤ 2000000
