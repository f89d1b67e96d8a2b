-- Meaning: What texts say: the tree that their tokens spell, and the macros that are defined at their end. Rules of
-- this project.
use Rattle.std.specs.Prelude.{◌≡◌, List, [], ◌∷◌, ◌++◌, Ok}
use Rattle.fv_text.specs.declared.token.Token.{Token}
use Rattle.vl_token.specs.Tokens.{AreTokens}
use Rattle.vl_prep.specs.Macros.{Held}
use Rattle.vl_prep.specs.Prep.{Outcome, preprocessed}
use Rattle.vl_text.specs.Assumptions.{with_assumptions}
use Rattle.vl_text.specs.Predefined.{ArePredefinedFor}
use Rattle.vl_text.specs.SourceText.{IsTree, Reading}
use Rattle.vl_text.specs.Texts.{Text, lexed_bytes}
use Rattle.vl_text.specs.declared.macros.Core.{Core}

-- each of the texts by itself has these tokens
abbrev pub HaveTokens : List Text → List (List Token) → Type 0
HaveTokens [] [] = Unit {0}
HaveTokens (x ∷ xs) (ts ∷ more) = AreTokens x.file x.line (lexed_bytes x) ts × HaveTokens xs more
HaveTokens xs more = ⊥

-- one behind the other
abbrev pub end_to_end : List (List Token) → List Token
end_to_end [] = []
end_to_end (ts ∷ more) = ts ++ end_to_end more

-- The tokens of the texts, and behind them those of the lines of assumptions, are preprocessed in one list by the
-- macros that are predefined for the core. The tree is what the outcome spells, with the assumptions in their place as
-- items, and the macros are those that are defined at its end.
pub record IsReadingOf (core : Core) (texts lines : List Text) (r : Reading) : Type 0 where
  pub of_texts : List (List Token)
  pub texts_have : HaveTokens texts of_texts
  pub of_lines : List (List Token)
  pub lines_have : HaveTokens lines of_lines
  pub macros : Held
  pub predefined : ArePredefinedFor core macros
  pub outcome : Outcome
  pub prepared : preprocessed macros (end_to_end of_texts ++ end_to_end of_lines) ≡ Ok outcome
  pub tree_is : IsTree (with_assumptions lines outcome.output) r.tree
  pub macros_are : r.macros ≡ outcome.macros
