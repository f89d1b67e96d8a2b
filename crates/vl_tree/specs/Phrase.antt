-- Meaning: What a part of a text spells: tokens in order, where its nodes begin, and what is open around them. A
-- phrase has three readings: the list of its kinds of tokens, the tokens that it is spelled by with their places, and
-- the number of constructs that are open at each token. Rule of this project.
use Rattle.std.specs.Prelude.{◌≡◌, ℕ, ◌+◌, Bool, true, false, List, [], ◌∷◌, ◌++◌, map}
use Rattle.fv_text.specs.declared.pos.Pos.{Pos}
use Rattle.fv_text.specs.declared.kind.Kind.{Kind}
use Rattle.fv_text.specs.declared.kind.Kind.TheVariants as k
use Rattle.fv_text.specs.declared.keyword.Keyword.{Keyword}
use Rattle.fv_text.specs.declared.symbol.Symbol.{Symbol}
use Rattle.fv_text.specs.declared.symbol.Symbol.TheVariants as s
use Rattle.fv_text.specs.declared.token.Token.{Token}

infixr 60 ◌▸◌
pub data Phrase : Type 0 where
  nothing : Phrase
  token : Kind → Phrase
  -- an operator, which stays open up to the end of its level
  operator : Kind → Phrase
  -- one behind the other
  ◌▸◌ : Phrase → Phrase → Phrase
  -- its first token stands at the place
  at : Pos → Phrase → Phrase
  -- a construct that is open from its first token on, and ends with it
  within : Phrase → Phrase
  -- operators in it end with it
  level : Phrase → Phrase

-- the kinds of its tokens
abbrev pub kinds : Phrase → List Kind
kinds nothing = []
kinds (token kind) = kind ∷ []
kinds (operator kind) = kind ∷ []
kinds (a ▸ b) = kinds a ++ kinds b
kinds (at p a) = kinds a
kinds (within a) = kinds a
kinds (level a) = kinds a

abbrev pub kinds_of : List Token → List Kind
kinds_of ts = map (λ t. t.kind) ts

abbrev pub BeginsAt : Pos → List Token → Type 0
BeginsAt p [] = ⊥
BeginsAt p (t ∷ ts) = t.pos ≡ p

-- the first token is of the kind, and the rest is behind it
abbrev pub IsNext : Kind → List Token → List Token → Type 0
IsNext kind [] rest = ⊥
IsNext kind (t ∷ ts) rest = (t.kind ≡ kind) × (ts ≡ rest)

-- the tokens begin with the phrase's, each where the phrase says, and the rest is behind them
abbrev pub Spells : Phrase → List Token → List Token → Type 0
Spells nothing ts rest = ts ≡ rest
Spells (token kind) ts rest = IsNext kind ts rest
Spells (operator kind) ts rest = IsNext kind ts rest
Spells (a ▸ b) ts rest = (middle : List Token) × Spells a ts middle × Spells b middle rest
Spells (at p a) ts rest = BeginsAt p ts × Spells a ts rest
Spells (within a) ts rest = Spells a ts rest
Spells (level a) ts rest = Spells a ts rest

-- how many constructs are open behind the phrase, where so many are before it
abbrev pub open_behind : Phrase → ℕ → ℕ
open_behind nothing n = n
open_behind (token kind) n = n
open_behind (operator kind) n = n + 1
open_behind (a ▸ b) n = open_behind b (open_behind a n)
open_behind (at p a) n = open_behind a n
open_behind (within a) n = n
open_behind (level a) n = n

-- how many constructs are open at each of its tokens
abbrev pub open_at : Phrase → ℕ → List ℕ
open_at nothing n = []
open_at (token kind) n = n ∷ []
open_at (operator kind) n = (n + 1) ∷ []
open_at (a ▸ b) n = open_at a n ++ open_at b (open_behind a n)
open_at (at p a) n = open_at a n
open_at (within a) n = open_at a (n + 1)
open_at (level a) n = open_at a n

abbrev pub sign : Symbol → Phrase
sign symbol = token (k.Symbol symbol)

abbrev pub word : Keyword → Phrase
word keyword = token (k.Keyword keyword)

abbrev pub a_name : List ℕ → Phrase
a_name text = token (k.Name text)

-- brackets with what is inside; they are open up to the closing one
abbrev pub parens : Phrase → Phrase
parens a = within (sign s.OpenParen ▸ a) ▸ sign s.CloseParen

abbrev pub square : Phrase → Phrase
square a = within (sign s.OpenBracket ▸ a) ▸ sign s.CloseBracket

abbrev pub braces : Phrase → Phrase
braces a = within (sign s.OpenBrace ▸ a) ▸ sign s.CloseBrace

-- a comma, but not before the first
abbrev pub comma_unless : Bool → Phrase
comma_unless true = nothing
comma_unless false = sign s.Comma

module _ {A : Type 0} (one : A → Phrase) where
  -- each in turn
  abbrev pub each : List A → Phrase
  each [] = nothing
  each (x ∷ xs) = one x ▸ each xs

  -- a comma before each
  abbrev pub with_commas : List A → Phrase
  with_commas [] = nothing
  with_commas (x ∷ xs) = sign s.Comma ▸ one x ▸ with_commas xs

  -- commas between them
  abbrev pub between_commas : List A → Phrase
  between_commas [] = nothing
  between_commas (x ∷ xs) = one x ▸ with_commas xs
