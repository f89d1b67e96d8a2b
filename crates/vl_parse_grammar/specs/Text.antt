-- Meaning: What the public laws say. What a text and its faulty token are, in terms of trees alone. Rule of this
-- project.
use Rattle.std.specs.Prelude.{◌≡◌, ℕ, List, [], ◌∷◌, ◌++◌, length}
use Rattle.fv_text.specs.declared.kind.Kind.{Kind}
use Rattle.vl_tree.specs.declared.source.Source.{Source}
use Rattle.vl_tree.specs.ItemSpelling.{spell_source}
use Rattle.vl_tree.specs.Phrase.{kinds}
use Rattle.vl_tree.specs.WellFormed.{IsSource}

-- some well formed tree is spelled by tokens of these kinds
pub record IsText (ks : List Kind) : Type 0 where
  pub tree : Source
  pub formed : IsSource tree
  pub spelled : kinds (spell_source tree) ≡ ks

-- The token with so many tokens from it on, or the end of the text where there are none, is the faulty one: no text
-- has it behind the tokens before it, and some text begins with these.
pub record IsFaulty (ks : List Kind) (left : ℕ) : Type 0 where
  pub before : List Kind
  pub behind : List Kind
  pub same : ks ≡ before ++ behind
  pub long : length behind ≡ left
  pub no_token : (kind : Kind) (rest other : List Kind) → behind ≡ kind ∷ rest
      → IsText (before ++ kind ∷ other) → ⊥
  pub no_end : behind ≡ [] → IsText before → ⊥
  pub rest : List Kind
  pub goes_on : IsText (before ++ rest)
