-- Lists of maps, by their places.
use Rattle.std.specs.Prelude.{◌≡◌, refl, ℕ, zero, suc, ◌<◌, List, [], ◌∷◌, length, take, Some, slice_get, is_none}
use Rattle.std.specs.List.{AllByRecursion}
use Rattle.std.proofs.Common.{ap, arith, subst, true≢false}
use Rattle.std.proofs.lemmas.Option.{same_Some}
use Rattle.vl_size.specs.Size.{Values}
use Rattle.vl_mean.specs.Runs.{Each}
use Rattle.ck_design.specs.Retirements.{values_at}

pub map_there : (run : List Values) (k : ℕ) → k < length run → slice_get run k ≡ Some (values_at run k)
map_there [] k less = absurd (omega (arith, less))
map_there (v ∷ vs) zero less = refl
map_there (v ∷ vs) (suc k) less = map_there vs k (omega (arith, less))

pub each_at : (P : Values → Type 0) (run : List Values) (k : ℕ) → k < length run → Each P run → P (values_at run k)
each_at P [] k less h = absurd (omega (arith, less))
each_at P (v ∷ vs) zero less h = h.0
each_at P (v ∷ vs) (suc k) less h = each_at P vs k (omega (arith, less)) h.1

pub each_from : (P : Values → Type 0) (run : List Values) → ((k : ℕ) → k < length run → P (values_at run k))
    → Each P run
each_from P [] h = tt
each_from P (v ∷ vs) h = (h 0 (omega arith), each_from P vs (λ k less. h (suc k) (omega (arith, less))))

-- what holds of the first n of them
pub first_at : (P : Values → Type 0) (n : ℕ) (run : List Values) (k : ℕ) → k < n → k < length run → Each P (take n run)
    → P (values_at run k)
first_at P zero run k below less h = absurd (omega (arith, below))
first_at P (suc n) [] k below less h = absurd (omega (arith, less))
first_at P (suc n) (v ∷ vs) zero below less h = h.0
first_at P (suc n) (v ∷ vs) (suc k) below less h = first_at P n vs k (omega (arith, below)) (omega (arith, less)) h.1

pub first_from : (P : Values → Type 0) (n : ℕ) (run : List Values)
    → ((k : ℕ) → k < n → k < length run → P (values_at run k)) → Each P (take n run)
first_from P zero run h = tt
first_from P (suc n) [] h = tt
first_from P (suc n) (v ∷ vs) h = (
  h 0 (omega arith) (omega arith),
  first_from P n vs (λ k below less. h (suc k) (omega (arith, below)) (omega (arith, less))),
)

-- what all items have, one at a place has
pub item_at : {A : Type 0} (P : A → Type 0) (xs : List A) (i : ℕ) (x : A) → AllByRecursion P xs
    → slice_get xs i ≡ Some x → P x
item_at P [] i x h e = absurd (true≢false (ap is_none e))
item_at P (y ∷ ys) zero x h e = subst P (same_Some y x e) h.0
item_at P (y ∷ ys) (suc i) x h e = item_at P ys i x h.1 e
