-- Meaning: What may be wrong in a text, and which of the faults is answered. Rule of this project.
use Rattle.std.specs.Prelude.{
  ◌≡◌,
  ℕ,
  ◌+◌,
  ◌*◌,
  ◌≤◌,
  Bool,
  true,
  false,
  List,
  ◌∷◌,
  ◌++◌,
  length,
  count_by,
  Result,
  Ok,
}
use Rattle.std.specs.Prelude.{Err}
use Rattle.std.specs.Global.{Vec}
use Rattle.fv_text.specs.declared.token.Token.{Token}
use Rattle.std.specs.List.{list_all}
use Rattle.fv_text.specs.declared.kind.Kind.{Kind}
use Rattle.fv_text.specs.declared.pos.Pos.{Pos}
use Rattle.vl_token.specs.declared.fault.LexFault.{LexFault}
use Rattle.vl_token.specs.declared.fault.LexFault.TheVariants.{NotAscii, BadNumber, OpenComment, BadChar}
use Rattle.vl_token.specs.declared.fault.LexFault.TheVariants.{TooManyTokens, OpenString, Memory}
use Rattle.vl_token.specs.Bytes.{first_is, ends_line, is_quotable}
use Rattle.vl_token.specs.Numeral.{Numeral, numeral_text, IsNumeral}
use Rattle.vl_token.specs.Number.{is_bad}
use Rattle.vl_token.specs.Piece.{Piece, text_of, joined, Stands, AllStand, closes}
use Rattle.vl_token.specs.Place.{place_after, start_of}
use Rattle.vl_token.specs.Tokens.{is_beyond_ascii, is_token, IsKind}

-- a number that is written against the rules stands here
pub record HasBadNumber (rest : List ℕ) : Type 0 where
  pub number : Numeral
  pub after : List ℕ
  pub same : rest ≡ numeral_text number ++ after
  pub stands : IsNumeral number after
  pub bad : is_bad number ≡ true

-- `/*` stands here, and no `*/` behind it
pub record HasOpenComment (rest : List ℕ) : Type 0 where
  pub body : List ℕ
  pub same : rest ≡ 47 ∷ (42 ∷ body)
  pub open_ended : closes body ≡ false

-- `"` stands here, and no other one on its line
pub record HasOpenString (rest : List ℕ) : Type 0 where
  pub body : List ℕ
  pub after : List ℕ
  pub same : rest ≡ 34 ∷ (body ++ after)
  pub inside : list_all is_quotable body ≡ true
  pub ends : ends_line after ≡ true

-- a byte stands here with which no blank, comment or token begins, open comments and strings among them
pub record HasBadChar (rest : List ℕ) : Type 0 where
  pub byte : ℕ
  pub after : List ℕ
  pub same : rest ≡ byte ∷ after
  pub no_piece : (p : Piece) (behind : List ℕ) → rest ≡ text_of p ++ behind → Stands p behind → ⊥
  pub no_comment : HasOpenComment rest → ⊥
  pub no_string : HasOpenString rest → ⊥

-- a token stands here
pub record HasToken (rest : List ℕ) : Type 0 where
  pub piece : Piece
  pub after : List ℕ
  pub kind : Kind
  pub same : rest ≡ text_of piece ++ after
  pub stands : Stands piece after
  pub is : IsKind piece kind

-- the text up to `rest` is cut into pieces
pub record IsCut (front rest : List ℕ) : Type 0 where
  pub pieces : List Piece
  pub same : front ≡ joined pieces
  pub stand : AllStand pieces rest

-- the text up to `rest` is cut into pieces, of which this many are tokens
pub record HasCount (front rest : List ℕ) (count : ℕ) : Type 0 where
  pub cut : IsCut front rest
  pub many : count_by is_token cut.pieces ≡ count

-- the fault is there behind `front`, wherever its place says that it is
abbrev pub Wrong : LexFault → List ℕ → List ℕ → Type 0
Wrong (NotAscii at) front rest = first_is is_beyond_ascii rest ≡ true
Wrong (BadNumber at) front rest = IsCut front rest × HasBadNumber rest
Wrong (OpenComment at) front rest = IsCut front rest × HasOpenComment rest
Wrong (BadChar at) front rest = IsCut front rest × HasBadChar rest
Wrong (TooManyTokens at) front rest = HasCount front rest 2000000 × HasToken rest
Wrong (OpenString at) front rest = IsCut front rest × HasOpenString rest
Wrong Memory front rest = ⊥

abbrev pub number_of : LexFault → ℕ
number_of (NotAscii at) = 1
number_of (BadNumber at) = 2
number_of (OpenComment at) = 3
number_of (BadChar at) = 4
number_of (TooManyTokens at) = 5
number_of (OpenString at) = 6
number_of Memory = 7

abbrev pub IsAt : LexFault → Pos → Type 0
IsAt (NotAscii at) place = at ≡ place
IsAt (BadNumber at) place = at ≡ place
IsAt (OpenComment at) place = at ≡ place
IsAt (BadChar at) place = at ≡ place
IsAt (TooManyTokens at) place = at ≡ place
IsAt (OpenString at) place = at ≡ place
IsAt Memory place = ⊥

-- faults by the length of the text before them, and at one place by their number
abbrev pub rank : LexFault → List ℕ → ℕ
rank f front = 8 * length front + number_of f

-- the fault is there in the text, at the place that it says, and comes before all others that are there
pub record Refuses (f : LexFault) (file line : ℕ) (bytes : List ℕ) : Type 0 where
  pub front : List ℕ
  pub rest : List ℕ
  pub same : bytes ≡ front ++ rest
  pub wrong : Wrong f front rest
  pub place : IsAt f (place_after (start_of file line) front)
  pub first : (g : LexFault) (a b : List ℕ) → bytes ≡ a ++ b → Wrong g a b → rank f front ≤ rank g a

abbrev pub is_of_text : LexFault → Bool
is_of_text Memory = false
is_of_text f = true

-- by cases on the fault: want of memory says nothing
abbrev pub OnNotMemory : LexFault → Type 0 → Type 0
OnNotMemory (NotAscii at) P = P
OnNotMemory (BadNumber at) P = P
OnNotMemory (OpenComment at) P = P
OnNotMemory (BadChar at) P = P
OnNotMemory (TooManyTokens at) P = P
OnNotMemory (OpenString at) P = P
OnNotMemory Memory P = Unit {0}

-- the answer is this fault or want of memory
abbrev pub IsAnswered : LexFault → Result (Vec Token) LexFault → Type 0
IsAnswered f (Ok ts) = ⊥
IsAnswered f (Err e) = OnNotMemory e (e ≡ f)
