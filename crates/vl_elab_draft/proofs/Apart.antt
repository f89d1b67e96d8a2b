-- Names that don't end with a bracket: none of them is that of a memory's word.
use Rattle.std.specs.Prelude.{◌≡◌, refl, ℕ, List, [], ◌∷◌, ◌++◌, true, false, Option, Some, None, All, ℤ, codes}
use Rattle.std.specs.Fmt.{signed_decimal}
use Rattle.std.proofs.Common.{ap, sym, ◌∙◌, true≢false}
use Rattle.std.proofs.lemmas.List.Elements.{All-push, All-weaker}
use Rattle.vl_size.specs.declared.decl.Decl.{Decl}
use Rattle.vl_size.specs.Table.{IsNoWordIn, HasNoWord, AreApart}
use Rattle.vl_elab_draft.specs.Ends.{ends_plain, EndsPlain}

bracketed : (text : List ℕ) → ends_plain (text ++ codes "]") ≡ false
bracketed [] = refl
bracketed (c ∷ []) = refl
bracketed (c ∷ d ∷ cs) = bracketed (d ∷ cs)

no_word : (words : Option (ℤ × ℤ)) (memory name : List ℕ) → ends_plain name ≡ true → IsNoWordIn words memory name
no_word None memory name h = tt
no_word (Some bounds) memory name h = λ i b e.
    true≢false (sym h ∙ ap ends_plain e ∙ bracketed (memory ++ codes "[" ++ signed_decimal i))

ends_apart : (ds : List Decl) → All EndsPlain ds → AreApart ds
ends_apart ds h =
    All-weaker EndsPlain (HasNoWord ds) (λ d p. All-weaker EndsPlain (λ e. IsNoWordIn d.words d.name e.name)
    (λ e q. no_word d.words d.name e.name q) ds h) ds h

pub one_more_ends : (ds : List Decl) (d : Decl) → EndsPlain d → All EndsPlain ds → All EndsPlain (ds ++ d ∷ [])
one_more_ends ds d h all = All-push EndsPlain ds d all h

pub ends_apart_more : (ds : List Decl) (d : Decl) → EndsPlain d → All EndsPlain ds → AreApart (ds ++ d ∷ [])
ends_apart_more ds d h all = ends_apart (ds ++ d ∷ []) (one_more_ends ds d h all)

pub ruleset ends = (one_more_ends, ends_apart_more)
