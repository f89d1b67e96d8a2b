-- Names in which no bracket stands: none of them is that of a memory's word.
use Rattle.std.specs.Prelude.{◌≡◌, refl, ℕ, List, [], ◌∷◌, ◌++◌, Bool, true, false, ◌&&◌, not, ◌==◌, Option, Some}
use Rattle.std.specs.Prelude.{None, All, ℤ, codes}
use Rattle.std.specs.List.{list_all}
use Rattle.std.specs.Fmt.{signed_decimal}
use Rattle.std.proofs.Common.{ap, sym, ◌∙◌, true≢false}
use Rattle.std.proofs.lemmas.List.Elements.{All-push, All-weaker}
use Rattle.std.proofs.lemmas.List.Folds.{list_all-append}
use Rattle.vl_size.specs.declared.decl.Decl.{Decl}
use Rattle.vl_size.specs.Table.{word_name, is_plain, IsPlain, IsNoWordIn, HasNoWord, AreApart}

and_false : (b : Bool) → (b && false) ≡ false
and_false true = refl
and_false false = refl

abbrev other : ℕ → Bool
other c = not (c == 91)

bracketed : (memory : List ℕ) (i : ℤ) → is_plain (word_name memory i) ≡ false
bracketed memory i =
    list_all-append other (memory ++ codes "[" ++ signed_decimal i) (codes "]")
    ∙ ap (λ b. b && list_all other (codes "]")) (
    list_all-append other (memory ++ codes "[") (signed_decimal i)
    ∙ ap (λ b. b && list_all other (signed_decimal i))
    (list_all-append other memory (codes "[") ∙ and_false (list_all other memory)))

no_word : (words : Option (ℤ × ℤ)) (memory name : List ℕ) → is_plain name ≡ true → IsNoWordIn words memory name
no_word None memory name h = tt
no_word (Some bounds) memory name h = λ i b e. true≢false (sym h ∙ ap is_plain e ∙ bracketed memory i)

pub plain_apart : (ds : List Decl) → All IsPlain ds → AreApart ds
plain_apart ds h =
    All-weaker IsPlain (HasNoWord ds) (λ d p. All-weaker IsPlain (λ e. IsNoWordIn d.words d.name e.name)
    (λ e q. no_word d.words d.name e.name q) ds h) ds h

pub one_more_plain : (ds : List Decl) (d : Decl) → IsPlain d → All IsPlain ds → All IsPlain (ds ++ d ∷ [])
one_more_plain ds d h all = All-push IsPlain ds d all h

pub plain_apart_more : (ds : List Decl) (d : Decl) → IsPlain d → All IsPlain ds → AreApart (ds ++ d ∷ [])
plain_apart_more ds d h all = plain_apart (ds ++ d ∷ []) (one_more_plain ds d h all)

pub ruleset plain_names = (one_more_plain, plain_apart_more)
