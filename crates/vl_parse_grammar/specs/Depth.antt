-- Meaning: Where too many constructs are open. Rule of this project: no more than 256 may be open at a token.
use Rattle.std.specs.Prelude.{
  ◌≡◌,
  ℕ,
  nat_le,
  List,
  [],
  ◌∷◌,
  ◌++◌,
  length,
  Option,
  Some,
  None,
  Result,
  Ok,
  Err,
}
use Rattle.std.specs.Prelude.{if◌then◌else◌}
use Rattle.fv_text.specs.declared.kind.Kind.{Kind}
use Rattle.vl_tree.specs.declared.source.Source.{Source}
use Rattle.vl_tree.specs.ItemSpelling.{spell_source}
use Rattle.vl_tree.specs.Phrase.{kinds, open_at}
use Rattle.vl_tree.specs.WellFormed.{IsSource}
use Rattle.vl_parse_grammar.specs.Machine.{Fault, deep}

-- how many numbers there are from the first one on that is above the limit
abbrev pub first_above : ℕ → List ℕ → Option ℕ
first_above limit [] = None
first_above limit (n ∷ ns) = if nat_le n limit then first_above limit ns else Some (length (n ∷ ns))

-- how many tokens there are from the first one on at which 257 constructs of the tree are open
abbrev pub too_deep_at : Source → Option ℕ
too_deep_at tree = first_above 256 (open_at (spell_source tree) 0)

abbrev pub unless_too_deep : Option ℕ → Result (Unit {0}) Fault
unless_too_deep None = Ok tt
unless_too_deep (Some left) = Err (deep left)

-- The token with so many tokens from it on is right, and it is the first one at which 257 constructs are open: so it
-- is in a text that begins with the tokens up to it.
pub record IsTooDeep (ks : List Kind) (left : ℕ) : Type 0 where
  pub before : List Kind
  pub token : Kind
  pub behind : List Kind
  pub same : ks ≡ before ++ token ∷ behind
  pub long : length (token ∷ behind) ≡ left
  pub tree : Source
  pub formed : IsSource tree
  pub rest : List Kind
  pub spelled : kinds (spell_source tree) ≡ before ++ token ∷ rest
  pub first : too_deep_at tree ≡ Some (length (token ∷ rest))
