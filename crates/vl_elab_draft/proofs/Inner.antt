-- What names stand for in scopes that are kept with the innermost last.
use Rattle.std.specs.Prelude.{◌≡◌, refl, ℕ, List, [], ◌∷◌, ◌++◌, reverse, Bool, true, false, ◌||◌, cond, bytes_eq}
use Rattle.std.specs.Prelude.{Option, Some, None, if◌then◌else◌, Result, Ok, Err, IfOk}
use Rattle.std.proofs.Common.{ap, sym, ◌∙◌}
use Rattle.std.proofs.lemmas.List.{reverse-append}
use Rattle.vl_size.specs.declared.decl.Decl.{Decl}
use Rattle.vl_size.specs.Table.{is_declared, declared_as}
use Rattle.vl_mean.specs.declared.const_number.Const.{Const}
use Rattle.vl_mean.specs.Constants.{constant_of}
use Rattle.vl_mean.specs.Scopes.{Scope, full, constant_in, constant_unless, declared_in, unless_constant, visible}
use Rattle.vl_elab_draft.specs.Kept.{own_full}

reverse_last : (all rest : List Scope) (s : Scope) → all ≡ rest ++ s ∷ [] → reverse all ≡ s ∷ reverse rest
reverse_last all rest s e = ap reverse e ∙ reverse-append rest (s ∷ [])

-- of no scope
pub full_none : {F : Type 0} (r : Result (List ℕ) F) (all : List Scope) (text : List ℕ) → all ≡ []
    → IfOk r (λ t. t ≡ text) → IfOk r (λ t. t ≡ full (reverse all) text)
full_none (Ok t) all text e k = k ∙ ap (λ ss. full (reverse ss) text) (sym e)
full_none (Err f) all text e k = k

module _ (all rest : List Scope) (s : Scope) (text : List ℕ) (e : all ≡ rest ++ s ∷ []) where
  -- ---- full names

  abbrev or_outer : Option (List ℕ) → List ℕ → List ℕ
  or_outer None outer = outer
  or_outer (Some name) outer = name

  full_last : full (reverse all) text ≡ or_outer (own_full s text) (full (reverse rest) text)
  full_last = ap (λ ss. full ss text) (reverse_last all rest s e) ∙ by (is_declared s.decls text)
    where
      by : (b : Bool) → (if b then s.path ++ text else full (reverse rest) text)
          ≡ or_outer (if b then Some (s.path ++ text) else None) (full (reverse rest) text)
      by true = refl
      by false = refl

  pub full_here : {F : Type 0} (r : Result (List ℕ) F) (name : List ℕ) → Some name ≡ own_full s text
      → IfOk r (λ t. t ≡ name) → IfOk r (λ t. t ≡ full (reverse all) text)
  full_here (Ok t) name h k = k ∙ ap (λ o. or_outer o (full (reverse rest) text)) h ∙ sym full_last
  full_here (Err f) name h k = k

  pub full_around : {F : Type 0} (r : Result (List ℕ) F) → None ≡ own_full s text
      → IfOk r (λ t. t ≡ full (reverse rest) text) → IfOk r (λ t. t ≡ full (reverse all) text)
  full_around (Ok t) h k = k ∙ ap (λ o. or_outer o (full (reverse rest) text)) h ∙ sym full_last
  full_around (Err f) h k = k

  -- ---- constants

  constant_last : constant_in (reverse all) text
      ≡ constant_unless (constant_of s.constants text) (is_declared s.decls text) (constant_in (reverse rest) text)
  constant_last = ap (λ ss. constant_in ss text) (reverse_last all rest s e)

  pub constant_here : (c : Const) → Some c ≡ constant_of s.constants text → Some c ≡ constant_in (reverse all) text
  constant_here c h =
      ap (λ o. constant_unless o (is_declared s.decls text) (constant_in (reverse rest) text)) h ∙ sym constant_last

  pub constant_hidden : (b : Bool) → None ≡ constant_of s.constants text → b ≡ is_declared s.decls text → b ≡ true
      → None ≡ constant_in (reverse all) text
  constant_hidden b h d t =
      (λ i. constant_unless (h i) ((sym t ∙ d) i) (constant_in (reverse rest) text)) ∙ sym constant_last

  pub constant_around : (o : Option Const) (b : Bool) → None ≡ constant_of s.constants text
      → b ≡ is_declared s.decls text → b ≡ false
      → o ≡ constant_in (reverse rest) text → o ≡ constant_in (reverse all) text
  constant_around o b h d t k =
      k ∙ (λ i. constant_unless (h i) ((sym t ∙ d) i) (constant_in (reverse rest) text)) ∙ sym constant_last

  -- ---- nets and variables

  declared_last : declared_in (reverse all) text ≡ unless_constant
      (constant_unless (constant_of s.constants text) (is_declared s.decls text) (constant_in (reverse rest) text))
      (declared_as (s.decls ++ visible (reverse rest)) text)
  declared_last = ap (λ ss. declared_in ss text) (reverse_last all rest s e)

  first_of : (ds es : List Decl) (d : Decl) → declared_as ds text ≡ Some d → declared_as (ds ++ es) text ≡ Some d
  first_of [] es d h = cc
  first_of (x ∷ ds) es d h = by (bytes_eq text x.name) h (first_of ds es d)
    where
      by : (b : Bool) → cond b (Some x) (declared_as ds text) ≡ Some d
          → (declared_as ds text ≡ Some d → declared_as (ds ++ es) text ≡ Some d)
          → cond b (Some x) (declared_as (ds ++ es) text) ≡ Some d
      by true h next = h
      by false h next = next h

  record IsAbsent (ds es : List Decl) : Type 0 where
    declared : is_declared ds text ≡ false
    further : declared_as (ds ++ es) text ≡ declared_as es text

  absent : (ds es : List Decl) → declared_as ds text ≡ None → IsAbsent ds es
  absent [] es h = record { declared = refl; further = refl }
  absent (x ∷ ds) es h = by (bytes_eq text x.name) refl h (absent ds es)
    where
      by : (b : Bool) → bytes_eq text x.name ≡ b → cond b (Some x) (declared_as ds text) ≡ None
          → (declared_as ds text ≡ None → IsAbsent ds es) → IsAbsent (x ∷ ds) es
      by true e h next = cc
      by false e h next =
          let rest = next h in
          record {
            declared = ap (λ b. b || is_declared ds text) e ∙ rest.declared;
            further = ap (λ b. cond b (Some x) (declared_as (ds ++ es) text)) e ∙ rest.further;
          }

  there : (ds : List Decl) (d : Decl) → declared_as ds text ≡ Some d → is_declared ds text ≡ true
  there [] d h = cc
  there (x ∷ ds) d h = by (bytes_eq text x.name) refl h (there ds d)
    where
      by : (b : Bool) → bytes_eq text x.name ≡ b → cond b (Some x) (declared_as ds text) ≡ Some d
          → (declared_as ds text ≡ Some d → is_declared ds text ≡ true) → is_declared (x ∷ ds) text ≡ true
      by true e h next = ap (λ b. b || is_declared ds text) e
      by false e h next = ap (λ b. b || is_declared ds text) e ∙ next h

  pub declared_constant : (c : Const) → Some c ≡ constant_of s.constants text → None ≡ declared_in (reverse all) text
  declared_constant c h =
      ap (λ o. unless_constant (constant_unless o (is_declared s.decls text) (constant_in (reverse rest) text))
      (declared_as (s.decls ++ visible (reverse rest)) text)) h ∙ sym declared_last

  pub declared_here : (d : Decl) → None ≡ constant_of s.constants text → Some d ≡ declared_as s.decls text
      → Some d ≡ declared_in (reverse all) text
  declared_here d h k =
      (λ i. unless_constant (constant_unless (h i) (sym (there s.decls d (sym k)) i) (constant_in (reverse rest) text))
      (sym (first_of s.decls (visible (reverse rest)) d (sym k)) i)) ∙ sym declared_last

  pub declared_around : (o : Option Decl) → None ≡ constant_of s.constants text → None ≡ declared_as s.decls text
      → o ≡ declared_in (reverse rest) text → o ≡ declared_in (reverse all) text
  declared_around o h k j =
      let gone = absent s.decls (visible (reverse rest)) (sym k) in
      j ∙ (λ i. unless_constant (constant_unless (h i) (sym gone.declared i) (constant_in (reverse rest) text))
      (sym gone.further i)) ∙ sym declared_last

pub ruleset inner_scopes = (
  full_none,
  full_here,
  full_around,
  constant_here,
  constant_hidden,
  constant_around,
  declared_constant,
  declared_here,
  declared_around,
)
