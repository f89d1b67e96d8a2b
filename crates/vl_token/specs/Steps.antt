-- Between functions: What the code keeps while it reads a text piece by piece. No public clause cites it. Rule of this
-- project.
use Rattle.std.specs.Prelude.{
  ◌≡◌,
  ℕ,
  ◌≤◌,
  ◌<◌,
  Bool,
  true,
  false,
  List,
  [],
  ◌∷◌,
  ◌++◌,
  length,
}
use Rattle.fv_text.specs.declared.kind.Kind.{Kind}
use Rattle.fv_text.specs.declared.pos.Pos.{Pos}
use Rattle.fv_text.specs.declared.token.Token.{Token}
use Rattle.vl_token.specs.declared.fault.LexFault.{LexFault}
use Rattle.vl_token.specs.declared.fault.LexFault.TheVariants.{NotAscii, BadNumber, OpenComment, BadChar}
use Rattle.vl_token.specs.declared.fault.LexFault.TheVariants.{TooManyTokens, OpenString, Memory}
use Rattle.vl_token.specs.declared.lexer.Step.{Step}
use Rattle.vl_token.specs.declared.lexer.Step.TheVariants.{End, On, Stop}
use Rattle.vl_token.specs.Piece.{Piece, text_of, joined, Stands, AllStand}
use Rattle.vl_token.specs.Place.{place_after}
use Rattle.vl_token.specs.Tokens.{is_token, IsFirstToken, AreOf}
use Rattle.vl_token.specs.Fault.{HasBadNumber, HasOpenComment, HasOpenString, HasBadChar, HasToken}

-- the piece stands at the front
pub record IsFront (bytes : List ℕ) (p : Piece) (rest : List ℕ) : Type 0 where
  pub same : bytes ≡ text_of p ++ rest
  pub stands : Stands p rest

-- one token more
pub record Added (kind : Kind) (at : Pos) (old new : List Token) : Type 0 where
  pub token : Token
  pub kind_is : token.kind ≡ kind
  pub pos_is : token.pos ≡ at
  pub more : new ≡ old ++ (token ∷ [])
  pub room : length old < 2000000

abbrev pub IsAddFault : LexFault → Pos → ℕ → Type 0
IsAddFault (TooManyTokens at) pos count = (at ≡ pos) × (2000000 ≤ count)
IsAddFault Memory pos count = Unit {0}
IsAddFault f pos count = ⊥

abbrev pub Adds : Bool → Piece → Pos → List Token → List Token → Type 0
Adds false p at old new = new ≡ old
Adds true p at old new = (t : Token) × (new ≡ old ++ (t ∷ [])) × IsFirstToken p at t × (length old < 2000000)

-- one piece was read
pub record Advances (rest after : List ℕ) (pos next : Pos) (old new : List Token) : Type 0 where
  pub piece : Piece
  pub front : IsFront rest piece after
  pub place : next ≡ place_after pos (text_of piece)
  pub adds : Adds (is_token piece) piece pos old new

-- nothing can be read, behind so many tokens
abbrev pub StopsAt : LexFault → List ℕ → ℕ → Pos → Type 0
StopsAt (NotAscii at) rest count pos = ⊥
StopsAt (BadNumber at) rest count pos = HasBadNumber rest × (at ≡ pos)
StopsAt (OpenComment at) rest count pos = HasOpenComment rest × (at ≡ pos)
StopsAt (BadChar at) rest count pos = HasBadChar rest × (at ≡ pos)
StopsAt (TooManyTokens at) rest count pos = HasToken rest × (at ≡ pos) × (2000000 ≤ count)
StopsAt (OpenString at) rest count pos = HasOpenString rest × (at ≡ pos)
StopsAt Memory rest count pos = Unit {0}

abbrev pub IsStep : Step → List ℕ → Pos → List Token → List Token → Type 0
IsStep End rest pos old new = (rest ≡ []) × (new ≡ old)
IsStep (On after next) rest pos old new = Advances rest after.now pos next old new
IsStep (Stop fault) rest pos old new = StopsAt fault rest (length old) pos

-- how far a text is read
pub record HasRead (bytes : List ℕ) (start : Pos) (rest : List ℕ) (pos : Pos) (ts : List Token) : Type 0 where
  pub pieces : List Piece
  pub same : bytes ≡ joined pieces ++ rest
  pub stand : AllStand pieces rest
  pub place : pos ≡ place_after start (joined pieces)
  pub tokens : AreOf pieces start ts
  pub few : length ts ≤ 2000000

-- the text is read up to the fault, which stands behind `count` bytes
pub record HasStopped (fault : LexFault) (count : ℕ) (bytes : List ℕ) (start : Pos) : Type 0 where
  pub rest : List ℕ
  pub pos : Pos
  pub ts : List Token
  pub read : HasRead bytes start rest pos ts
  pub far : length (joined read.pieces) ≡ count
  pub stops : StopsAt fault rest (length ts) pos
