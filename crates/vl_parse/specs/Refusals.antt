-- Meaning: What the public calls promise. Which tree is answered and which refusal, in terms of trees alone. Rule of
-- this project.
use Rattle.std.specs.Prelude.{◌≡◌, ◌⊎◌, ℕ, List, [], None, Result, Ok, Err}
use Rattle.fv_text.specs.declared.token.Token.{Token}
use Rattle.vl_tree.specs.declared.source.Source.{Source}
use Rattle.vl_tree.specs.ItemSpelling.{spell_source}
use Rattle.vl_tree.specs.Phrase.{Spells, kinds_of}
use Rattle.vl_tree.specs.WellFormed.{IsSource}
use Rattle.vl_parse_grammar.specs.Depth.{too_deep_at, IsTooDeep}
use Rattle.vl_parse_grammar.specs.Text.{IsFaulty}
use Rattle.vl_parse.specs.declared.fault.ParseFault.{ParseFault}
use Rattle.vl_parse.specs.declared.fault.ParseFault.TheVariants as f
use Rattle.vl_parse.specs.Faults.{wrong_token, deep_fault, IsMemoryOr}

-- it is well formed, and the tokens are its spelling
abbrev pub IsTreeOf : List Token → Source → Type 0
IsTreeOf ts tree = IsSource tree × Spells (spell_source tree) ts []

-- no more than 256 of its constructs are open at a token
abbrev pub IsShallow : Source → Type 0
IsShallow tree = too_deep_at tree ≡ None

-- at no token of a right beginning are 257 constructs open
abbrev pub NoneIsTooDeep : List Token → Type 0
NoneIsTooDeep ts = (left : ℕ) → IsTooDeep (kinds_of ts) left → ⊥

-- the fault is the one of the faulty token, up to which nothing is too deep
pub record IsOfFaulty (ts : List Token) (fault : ParseFault) : Type 0 where
  pub left : ℕ
  pub faulty : IsFaulty (kinds_of ts) left
  pub shallow : NoneIsTooDeep ts
  pub named : fault ≡ wrong_token ts left

-- the fault is the one of the first token at which 257 constructs are open
pub record IsOfTooDeep (ts : List Token) (fault : ParseFault) : Type 0 where
  pub left : ℕ
  pub deep : IsTooDeep (kinds_of ts) left
  pub named : fault ≡ deep_fault ts left

-- the tokens have what the fault says; want of memory is no fault of theirs
abbrev pub IsFaultOf : List Token → ParseFault → Type 0
IsFaultOf ts f.Memory = Unit {0}
IsFaultOf ts found = IsOfFaulty ts found ⊎ IsOfTooDeep ts found

-- the tree is answered, but for want of memory
abbrev pub Gives : Source → Result Source ParseFault → Type 0
Gives wanted (Ok tree) = tree ≡ wanted
Gives wanted (Err fault) = fault ≡ f.Memory

-- the fault is answered, but for want of memory
abbrev pub Refuses : ParseFault → Result Source ParseFault → Type 0
Refuses wanted (Ok tree) = ⊥
Refuses wanted (Err fault) = IsMemoryOr wanted fault
