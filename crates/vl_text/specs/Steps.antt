-- Between functions: What the functions of this crate promise one another. No public clause cites it. Rule of this
-- project.
use Rattle.std.specs.Prelude.{◌≡◌, List, [], ◌∷◌, ◌++◌, Ok, Err, Result}
use Rattle.std.specs.List.{filter}
use Rattle.std.specs.Global.{Vec}
use Rattle.fv_text.specs.declared.token.Token.{Token}
use Rattle.vl_token.specs.Fault.{OnNotMemory}
use Rattle.vl_token.specs.declared.fault.LexFault.{LexFault}
use Rattle.vl_text.specs.Assumptions.{is_assumed, is_not_assumed}
use Rattle.vl_text.specs.Texts.{Text, Lexing, IsLexed, with_lexing, laid_behind}
use Rattle.vl_text.specs.declared.assumptions.Section.{Section}
use Rattle.vl_text.specs.declared.assumptions.Sorted.{Sorted}
use Rattle.vl_text.specs.declared.lexing.Lexed.{Lexed}

-- the lexer makes this of the text, and nothing else
pub record IsOnlyLexed (x : Text) (r : Lexing) : Type 0 where
  pub is : IsLexed x r
  pub only : (other : Lexing) → IsLexed x other → other ≡ r

-- an answer says this of a text; want of memory says nothing
abbrev pub Lexes : Text → Result (Vec Token) LexFault → Type 0
Lexes x (Ok ts) = IsOnlyLexed x (Ok ts.items)
Lexes x (Err f) = OnNotMemory f (IsOnlyLexed x (Err f))

-- one text more is laid behind the others
pub record AddsText (x : Text) (old new : Lexed) : Type 0 where
  pub lexing : Lexing
  pub lexed : IsOnlyLexed x lexing
  pub new_is : new ≡ with_lexing old lexing

abbrev pub AreOnlyLexed : List Text → List Lexing → Type 0
AreOnlyLexed [] [] = Unit {0}
AreOnlyLexed [] (r ∷ rs) = ⊥
AreOnlyLexed (x ∷ xs) [] = ⊥
AreOnlyLexed (x ∷ xs) (r ∷ rs) = IsOnlyLexed x r × AreOnlyLexed xs rs

-- several texts more
pub record AddsTexts (xs : List Text) (old new : Lexed) : Type 0 where
  pub lexings : List Lexing
  pub lexed : AreOnlyLexed xs lexings
  pub new_is : new ≡ laid_behind old lexings

-- tokens, those of assumptions by themselves
abbrev pub sorted : Section → List Token → Sorted
sorted section ts = record { assumed = filter (is_assumed section) ts; others = filter (is_not_assumed section) ts }

-- one token more
abbrev pub with_token : Section → Sorted → Token → Sorted
with_token section s t = record {
  assumed = s.assumed ++ filter (is_assumed section) (t ∷ []);
  others = s.others ++ filter (is_not_assumed section) (t ∷ []);
}
