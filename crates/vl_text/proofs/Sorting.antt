-- Tokens one behind the other.
use Rattle.std.proofs.Common.{◌≡◌, List, [], ◌∷◌, ◌++◌, sym, ap, ◌∙◌, append_assoc, append-nil}
use Rattle.std.proofs.lemmas.List.Elements.{filter-append}
use Rattle.fv_text.specs.declared.token.Token.{Token}
use Rattle.vl_text.specs.Assumptions.{is_assumed, is_not_assumed}
use Rattle.vl_text.specs.Steps.{sorted, with_token}
use Rattle.vl_text.specs.declared.assumptions.Section.{Section}
use Rattle.vl_text.specs.declared.assumptions.Sorted.{Sorted}

both : (a b c d : List Token) → a ≡ b → c ≡ d
    → ◌≡◌ {A = Sorted} (record { assumed = a; others = c }) (record { assumed = b; others = d })
both a b c d p q = cc

-- one more is sorted
pub sorted_more : (section : Section) (s new : Sorted) (ts : List Token) (t : Token) → s ≡ sorted section ts
    → new ≡ with_token section s t → new ≡ sorted section (ts ++ t ∷ [])
sorted_more section s new ts t e f =
    f ∙ ap (λ (a : Sorted). with_token section a t) e
    ∙ both _ _ _ _ (sym (filter-append (is_assumed section) ts (t ∷ [])))
    (sym (filter-append (is_not_assumed section) ts (t ∷ [])))

-- one more is pushed
pub pushed : (xs front old new : List Token) (t u : Token) → old ≡ xs ++ front → new ≡ old ++ t ∷ [] → t ≡ u
    → new ≡ xs ++ (front ++ u ∷ [])
pushed xs front old new t u e f g =
    f ∙ ap (λ l. l ++ t ∷ []) e ∙ append_assoc xs front (t ∷ []) ∙ ap (λ (v : Token). xs ++ (front ++ v ∷ [])) g

pub none_pushed : (xs : List Token) → xs ≡ xs ++ []
none_pushed xs = sym (append-nil xs)
