-- Tables that are filled name by name.
use Rattle.std.specs.Prelude.{◌≡◌, refl, ℕ, ◌+◌, List, [], ◌∷◌, ◌||◌, drop, Bool, true, false}
use Rattle.std.specs.Prelude.{bytes_eq}
use Rattle.std.specs.Prelude.{Option, Some, None, if◌then◌else◌, is_some}
use Rattle.std.proofs.Common.{ap, sym, ◌∙◌}
use Rattle.std.proofs.lemmas.Slice.Eq.{bytes_eq-Decides}
use Rattle.fv_text.proofs.Lookups.{bytes_eq-swap}
use Rattle.vl_mean.specs.Cells.{contains_name}
use Rattle.vl_elab_scope.specs.Texts.{of_names, or_else, AgreeOn}

module _ {A : Type 0} (f : List ℕ → Option A) where
  or_none : (x : Option A) → or_else x None ≡ x
  or_none None = refl
  or_none (Some x) = refl

  same_twice : (x : Option A) (b : Bool) → or_else x (if b then x else None) ≡ x
  same_twice None true = refl
  same_twice None false = refl
  same_twice (Some x) b = refl

  again : (x y : Option A) (b : Bool) → or_else (or_else x y) (if b then y else None) ≡ or_else x y
  again None y b = same_twice y b
  again (Some x) y b = refl

  -- the table at a name, once the name x is added
  abbrev added : List ℕ → (List ℕ → Option A) → List ℕ → Option A
  added x old other = if bytes_eq other x then or_else (old other) (f other) else old other

  one : (x : List ℕ) (rest : List (List ℕ)) (old : List ℕ → Option A) (other : List ℕ)
      → or_else (added x old other) (of_names f rest other) ≡ or_else (old other) (of_names f (x ∷ rest) other)
  one x rest old other = by (bytes_eq other x)
    where
      by : (b : Bool) → or_else (if b then or_else (old other) (f other) else old other) (of_names f rest other)
          ≡ or_else (old other) (if b || contains_name rest other then f other else None)
      by true = again (old other) (f other) (contains_name rest other)
      by false = refl

  pub table_start : (old : List ℕ → Option A) (ts : List (List ℕ)) (other : List ℕ) → old other ≡ None
      → or_else (old other) (of_names f ts other) ≡ of_names f ts other
  table_start old ts other h = ap (λ x. or_else x (of_names f ts other)) h

  pub table_on : (old new : List ℕ → Option A) (ts : List (List ℕ)) (x : List ℕ) (i : ℕ) (whole : Option A)
      (other : List ℕ) → drop i ts ≡ x ∷ drop (i + 1) ts → new other ≡ added x old other
      → or_else (old other) (of_names f (drop i ts) other) ≡ whole
      → or_else (new other) (of_names f (drop (i + 1) ts) other) ≡ whole
  table_on old new ts x i whole other front made h =
      ap (λ y. or_else y (of_names f (drop (i + 1) ts) other)) made ∙ one x (drop (i + 1) ts) old other
      ∙ ap (λ l. or_else (old other) (of_names f l other)) (sym front) ∙ h

  pub table_end : (made : List ℕ → Option A) (ts : List (List ℕ)) (i : ℕ) (whole : Option A) (other : List ℕ)
      → drop i ts ≡ [] → or_else (made other) (of_names f (drop i ts) other) ≡ whole → made other ≡ whole
  table_end made ts i whole other gone h =
      sym (or_none (made other)) ∙ ap (λ l. or_else (made other) (of_names f l other)) (sym gone) ∙ h

  -- a name that is there already
  pub stays : (old : List ℕ → Option A) (x other : List ℕ) → is_some (old x) ≡ true
      → old other ≡ added x old other
  stays old x other h = by (bytes_eq other x) refl
    where
      kept : (y : Option A) → is_some y ≡ true → y ≡ or_else y (f other)
      kept None h = cc
      kept (Some y) h = refl

      by : (b : Bool) → bytes_eq other x ≡ b
          → old other ≡ (if b then or_else (old other) (f other) else old other)
      by true e = kept (old other) (ap (λ t. is_some (old t)) ((bytes_eq-Decides other x).0 e) ∙ h)
      by false e = refl

  -- one that isn't, and whose value is put there where it has one
  pub comes : (old new : List ℕ → Option A) (x other : List ℕ) (t : Option A) → is_some (old x) ≡ false
      → t ≡ f x
      → new other ≡ (if bytes_eq x other then or_else t (old other) else old other)
      → new other ≡ added x old other
  comes old new x other t h e made =
      made ∙ ap (λ b. if b then or_else t (old other) else old other) (bytes_eq-swap x other)
      ∙ by (bytes_eq other x) refl
    where
      none : (y : Option A) → is_some y ≡ false → or_else t y ≡ or_else y t
      none None h = or_none t
      none (Some y) h = cc

      by : (b : Bool) → bytes_eq other x ≡ b → (if b then or_else t (old other) else old other)
          ≡ (if b then or_else (old other) (f other) else old other)
      by true k =
          let same = (bytes_eq-Decides other x).0 k in
          none (old other) (ap (λ n. is_some (old n)) same ∙ h)
          ∙ ap (or_else (old other)) (e ∙ sym (ap f same))
      by false k = refl

  -- what the table has agrees on these names
  pub agrees : (g : List ℕ → Option A) (ts : List (List ℕ))
      → ((text : List ℕ) → g text ≡ of_names f ts text)
      → AgreeOn g f ts
  agrees g ts h text k = h text ∙ ap (λ b. if b then f text else None) k
