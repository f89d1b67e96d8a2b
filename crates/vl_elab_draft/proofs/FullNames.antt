-- The full names of what a scope declares, which it keeps by the places of the declarations.
use Rattle.std.specs.Prelude.{◌≡◌, refl, ℕ, ◌≤◌, List, [], ◌∷◌, ◌++◌, length, Bool, true, false, ◌||◌, cond}
use Rattle.std.specs.Prelude.{if◌then◌else◌, nat_lt, is_none, bytes_eq, Option, Some, None, slice_get}
use Rattle.std.specs.List.{position_or_len}
use Rattle.std.specs.Option.{option_map}
use Rattle.std.proofs.Common.{ap, sym, ◌∙◌, arith, true≢false}
use Rattle.std.proofs.lemmas.Bool.Decides.{nat_tests}
use Rattle.std.proofs.lemmas.List.{map-append}
use Rattle.std.proofs.lemmas.List.Folds.{find_at}
use Rattle.std.proofs.lemmas.Option.{same_Some, slice_get-map, slice_get_past}
use Rattle.std.proofs.lemmas.Slice.Eq.{bytes_eq-Decides}
use Rattle.vl_size.specs.declared.decl.Decl.{Decl}
use Rattle.vl_size.specs.Table.{declared_as, is_declared, place}
use Rattle.vl_mean.specs.Scopes.{Scope}
use Rattle.vl_elab_draft.specs.Kept.{names_under, own_full}

module _ (s : Scope) (text : List ℕ) where
  abbrev under : Decl → List ℕ
  under d = s.path ++ d.name

  abbrev is_it : Decl → Bool
  is_it d = bytes_eq text d.name

  -- the full name is that of the declaration
  named : (ds : List Decl) → option_map under (declared_as ds text)
      ≡ (if is_declared ds text then Some (s.path ++ text) else None)
  named [] = refl
  named (d ∷ ds) = by (is_it d) refl (named ds)
    where
      by : (b : Bool) → is_it d ≡ b
          → option_map under (declared_as ds text) ≡ (if is_declared ds text then Some (s.path ++ text) else None)
          → option_map under (cond b (Some d) (declared_as ds text))
          ≡ (if b || is_declared ds text then Some (s.path ++ text) else None)
      by true e next = ap (λ name. Some (s.path ++ name)) (sym ((bytes_eq-Decides text d.name).0 e))
      by false e next = next

  -- no declaration has the name
  pub own_none : (ds : List Decl) → ds ≡ s.decls → None ≡ place ds text → None ≡ own_full s text
  own_none ds same h =
      ap (option_map under) (sym (by (nat_lt (position_or_len is_it ds) (length ds)) refl (sym h))) ∙ named ds
      ∙ ap (λ xs. if is_declared xs text then Some (s.path ++ text) else None) same
    where
      by : (b : Bool) → nat_lt (position_or_len is_it ds) (length ds) ≡ b
          → cond b (Some (position_or_len is_it ds)) None ≡ None → declared_as ds text ≡ None
      by true t e = absurd (true≢false (sym (ap is_none e)))
      by false t e =
          let past : length ds ≤ position_or_len is_it ds = grind (arith, nat_tests, t) in
          find_at is_it ds ∙ slice_get_past ds (position_or_len is_it ds) past

  -- the declaration at the place has the name
  pub own_some : (path : List ℕ) (ds : List Decl) (names : List (List ℕ)) (i : ℕ) (o : Option (List ℕ))
      → path ≡ s.path → ds ≡ s.decls → names ≡ names_under path ds → Some i ≡ place ds text → o ≡ slice_get names i
      → o ≡ own_full s text
  own_some path ds names i o front same kept h is =
      is ∙ ap (λ xs. slice_get xs i) (kept ∙ ap (λ p. names_under p ds) front) ∙ slice_get-map under ds i
      ∙ ap (option_map under) (sym (by (nat_lt (position_or_len is_it ds) (length ds)) (sym h))) ∙ named ds
      ∙ ap (λ xs. if is_declared xs text then Some (s.path ++ text) else None) same
    where
      by : (b : Bool) → cond b (Some (position_or_len is_it ds)) None ≡ Some i
          → declared_as ds text ≡ slice_get ds i
      by true e = find_at is_it ds ∙ ap (slice_get ds) (same_Some (position_or_len is_it ds) i e)
      by false e = absurd (true≢false (ap is_none e))

-- one more
pub more_names : (path : List ℕ) (ds : List Decl) (d : Decl) (names : List (List ℕ)) (name : List ℕ)
    → names ≡ names_under path ds → name ≡ path ++ d.name → names ++ name ∷ [] ≡ names_under path (ds ++ d ∷ [])
more_names path ds d names name kept e =
    (λ i. kept i ++ e i ∷ []) ∙ sym (map-append (λ d. path ++ d.name) ds (d ∷ []))

pub ruleset own_names = (own_none, own_some, more_names)
