-- Two lists of which each element of the first has its one of the second.
use Rattle.std.specs.Prelude.{◌≡◌, refl, ℕ, zero, suc, List, [], ◌∷◌, ◌++◌, length, drop, Some, is_none, slice_get}
use Rattle.std.proofs.Common.{ap, subst, true≢false}
use Rattle.std.proofs.lemmas.Option.{same_Some}
use Rattle.vl_size.specs.declared.decl.Decl.{Decl}
use Rattle.vl_mean.specs.declared.driver.Driver.{Driver}
use Rattle.vl_mean.specs.declared.driver.DriverKind.{DriverKind}
use Rattle.fv_bit_sets.specs.declared.step.Step.{Step}
use Rattle.fv_bit_sets.specs.Cells.{has}
use Rattle.vl_flow_spec.specs.Reads.{Bits}
use Rattle.vl_flow_cells.specs.Numbered.{Shows}
use Rattle.vl_flow_effects.specs.Effects.{AreEach}
use Rattle.vl_flow_check.specs.Rows.{AreSets}

module _ {A B : Type 0} (R : A → B → Type 0) where
  pub each_size : (xs : List A) (ys : List B) → AreEach R xs ys → length xs ≡ length ys
  each_size [] [] h = refl
  each_size [] (y ∷ ys) h = absurd h
  each_size (x ∷ xs) [] h = absurd h
  each_size (x ∷ xs) (y ∷ ys) h = ap suc (each_size xs ys h.1)

  pub each_at : (xs : List A) (ys : List B) → AreEach R xs ys → (i : ℕ) (x : A) (y : B) → slice_get xs i ≡ Some x
      → slice_get ys i ≡ Some y → R x y
  each_at [] ys h i x y e f = absurd (true≢false (ap is_none e))
  each_at (a ∷ xs) [] h i x y e f = absurd h
  each_at (a ∷ xs) (b ∷ ys) h zero x y e f =
      subst (λ z. R z y) (same_Some a x e) (subst (R a) (same_Some b y f) h.0)
  each_at (a ∷ xs) (b ∷ ys) h (suc i) x y e f = each_at xs ys h.1 i x y e f

-- one more at the end of both
pub set_behind : (ds : List Decl) (K : DriverKind → Bits) (sets : List (List Step)) (drivers : List Driver)
    (s : List Step) (x : Driver) → AreSets ds K sets drivers → Shows ds (has s) (K x.what)
    → AreSets ds K (sets ++ s ∷ []) (drivers ++ x ∷ [])
set_behind ds K [] [] s x h k = (k, tt)
set_behind ds K [] (y ∷ ys) s x h k = absurd h
set_behind ds K (a ∷ sets) [] s x h k = absurd h
set_behind ds K (a ∷ sets) (y ∷ ys) s x h k = (h.0, set_behind ds K sets ys s x h.1 k)

pub get_drop : {A : Type 0} (xs : List A) (i : ℕ) → slice_get xs i ≡ slice_get (drop i xs) 0
get_drop [] zero = refl
get_drop [] (suc i) = refl
get_drop (x ∷ xs) zero = refl
get_drop (x ∷ xs) (suc i) = get_drop xs i
