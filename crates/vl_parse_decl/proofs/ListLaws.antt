-- Lists with commas between their elements, and one element more.
use Rattle.std.proofs.Common.{◌≡◌, ℕ, suc, ◌+◌, ◌≤◌, ◌<◌, List, [], ◌∷◌, ◌++◌, length, refl, sym, ap, ◌∙◌, subst, arith}
use Rattle.std.specs.Prelude.{All}
use Rattle.std.proofs.lemmas.List.Elements.{All-append, All-cons, All-nil}
use Rattle.fv_text.specs.declared.kind.Kind.TheVariants as k
use Rattle.fv_text.specs.declared.symbol.Symbol.TheVariants as s
use Rattle.fv_text.specs.declared.token.Token.{Token}
use Rattle.vl_tree.specs.Phrase.{Phrase, Spells, IsNext, with_commas, between_commas, each}
use Rattle.vl_tree.specs.declared.attribute.AttributeInstance.{AttributeInstance}
use Rattle.vl_tree.specs.DeclarationSpelling.{spell_instance, spell_attributes}
use Rattle.vl_tree.specs.DeclarationWellFormed.{AreSome, IsInstance, AreAttributes}
use Rattle.vl_parse_decl.specs.Lists.{BeginsWith}

module _ {A : Type 0} (one : A → Phrase) where
  with_pushed : (xs : List A) (x : A) (start middle behind rest : List Token) → Spells (with_commas one xs) start middle
      → IsNext (k.Symbol s.Comma) middle behind → Spells (one x) behind rest
      → Spells (with_commas one (xs ++ x ∷ [])) start rest
  with_pushed [] x start middle behind rest h i j =
      (behind, subst (λ ts. IsNext (k.Symbol s.Comma) ts behind) (sym h) i, (rest, j, refl))
  with_pushed (y ∷ xs) x start middle behind rest (m, h, (n, i, j)) l o =
      (m, h, (n, i, with_pushed xs x n middle behind rest j l o))

  pub between_pushed : (xs : List A) (x : A) (start middle behind rest : List Token) → 0 < length xs
      → Spells (between_commas one xs) start middle
      → IsNext (k.Symbol s.Comma) middle behind → Spells (one x) behind rest
      → Spells (between_commas one (xs ++ x ∷ [])) start rest
  between_pushed [] x start middle behind rest n h i j = absurd (omega (arith, n))
  between_pushed (y ∷ xs) x start middle behind rest n (m, h, l) i j =
      (m, h, with_pushed xs x m middle behind rest l i j)

  pub each_pushed : (xs : List A) (x : A) (start middle rest : List Token) → Spells (each one xs) start middle
      → Spells (one x) middle rest
      → Spells (each one (xs ++ x ∷ [])) start rest
  each_pushed [] x start middle rest h i = (rest, subst (λ ts. Spells (one x) ts rest) (sym h) i, refl)
  each_pushed (y ∷ xs) x start middle rest (m, h, j) i = (m, h, each_pushed xs x m middle rest j i)

pub all_pushed : {A : Type 0} (Fits : A → Type 0) (xs : List A) (x : A) → All Fits xs → Fits x → All Fits (xs ++ x ∷ [])
all_pushed Fits xs x h i = All-append Fits xs (x ∷ []) h (All-cons Fits x [] i (All-nil Fits))

pushed_some : {A : Type 0} (xs : List A) (x : A) → 0 < length (xs ++ x ∷ [])
pushed_some [] x = omega arith
pushed_some (y ∷ xs) x = omega arith

pub some_pushed : {A : Type 0} (Fits : A → Type 0) (xs : List A) (x : A) → AreSome Fits xs → Fits x
    → AreSome Fits (xs ++ x ∷ [])
some_pushed Fits xs x h i = (pushed_some xs x, all_pushed Fits xs x h.1 i)

pub between_first : {A : Type 0} (one : A → Phrase) (x : A) (start rest : List Token) → Spells (one x) start rest
    → Spells (between_commas one (x ∷ [])) start rest
between_first one x start rest h = (rest, h, refl)

pub begins_pushed : {A : Type 0} (x : A) (xs : List A) (y : A) → BeginsWith x xs → BeginsWith x (xs ++ y ∷ [])
begins_pushed x [] y h = absurd h
begins_pushed x (z ∷ zs) y h = h

pub ruleset list_laws = (between_pushed, between_first, some_pushed, begins_pushed)

pub attributes_pushed : (xs : List AttributeInstance) (x : AttributeInstance) (start middle rest : List Token)
    → Spells (spell_attributes xs) start middle → Spells (spell_instance x) middle rest
    → Spells (spell_attributes (xs ++ x ∷ [])) start rest
attributes_pushed xs x start middle rest h i = each_pushed spell_instance xs x start middle rest h i

pub attributes_formed : (xs : List AttributeInstance) (x : AttributeInstance) → AreAttributes xs → IsInstance x
    → AreAttributes (xs ++ x ∷ [])
attributes_formed xs x h i = all_pushed IsInstance xs x h i

pub ruleset each_laws = (attributes_pushed, attributes_formed)
