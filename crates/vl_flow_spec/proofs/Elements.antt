-- What holds of each declaration, driver and part, and of one of them.
use Rattle.std.specs.Prelude.{◌≡◌, refl, ℕ, zero, suc, ◌<◌, ◌==◌, List, [], ◌∷◌, Bool, true, false, map, All}
use Rattle.std.specs.Prelude.{bytes_eq, is_none, if◌then◌else◌, slice_get, Option, Some, None}
use Rattle.std.proofs.Common.{ap, sym, ◌∙◌, arith, subst, true≢false}
use Rattle.std.proofs.lemmas.Bool.Decides.{nat_tests}
use Rattle.std.proofs.lemmas.List.Elements.{All-head, All-tail}
use Rattle.std.proofs.lemmas.Option.{same_Some}
use Rattle.std.proofs.lemmas.Slice.Eq.{bytes_eq-Decides}
use Rattle.vl_size.specs.declared.decl.Decl.{Decl}
use Rattle.vl_size.specs.Table.{declared_as, is_declared, AreDifferent}
use Rattle.vl_mean.specs.declared.driver.Driver.{Driver}
use Rattle.vl_mean.specs.declared.driver.Start.{Start}
use Rattle.vl_mean.specs.FlatParts.{driver_part, start_part}
use Rattle.vl_mean.specs.Parts.{Part, declares}
use Rattle.vl_mean.specs.Runs.{Each, EachBelow}
use Rattle.vl_mean.specs.Scopes.{Scope}
use Rattle.vl_flow_spec.proofs.Bools.{left_none, right_none, none_of}

-- ---- nothing

pub nothing : {A : Type 0} (o : Option A) → is_none o ≡ true → o ≡ None
nothing None e = refl
nothing (Some x) e = absurd (true≢false (sym e))

-- ---- one of a list

pub each_at : {A : Type 0} (P : A → Type 0) (xs : List A) (i : ℕ) (x : A) → slice_get xs i ≡ Some x → Each P xs → P x
each_at P [] i x e h = absurd (true≢false (ap is_none e))
each_at P (y ∷ ys) zero x e h = subst P (same_Some y x e) h.0
each_at P (y ∷ ys) (suc i) x e h = each_at P ys i x e h.1

pub each_of_places : {A : Type 0} (P : A → Type 0) (xs : List A)
    → ((i : ℕ) (x : A) → slice_get xs i ≡ Some x → P x) → Each P xs
each_of_places P [] h = tt
each_of_places P (x ∷ xs) h = (h zero x refl, each_of_places P xs (λ i y e. h (suc i) y e))

pub all_at : {A : Type 0} (P : A → Type 0) (xs : List A) (i : ℕ) (x : A) → slice_get xs i ≡ Some x → All P xs → P x
all_at P [] i x e h = absurd (true≢false (ap is_none e))
all_at P (y ∷ ys) zero x e h = subst P (same_Some y x e) (All-head P y ys h)
all_at P (y ∷ ys) (suc i) x e h = all_at P ys i x e (All-tail P y ys h)

pub each_below_at : (P : ℕ → Type 0) (n k : ℕ) → k < n → EachBelow P n → P k
each_below_at P zero k less h = absurd (omega (arith, less))
each_below_at P (suc n) k less h = by (λ under. each_below_at P n k under h.1) (k == n) refl
  where
    by : (k < n → P k) → (b : Bool) → (k == n) ≡ b → P k
    by f true e =
        let same : n ≡ k = grind (arith, nat_tests, e) in subst P same h.0
    by f false e = f (grind (arith, nat_tests, e, less))

pub each_below_of : (P : ℕ → Type 0) (n : ℕ) → ((k : ℕ) → k < n → P k) → EachBelow P n
each_below_of P zero h = tt
each_below_of P (suc n) h = (h n (omega arith), each_below_of P n (λ k less. h k (omega (arith, less))))

-- ---- declarations

pub each_declared_as : (P : Decl → Type 0) (ds : List Decl) (text : List ℕ) (d : Decl) → declared_as ds text ≡ Some d
    → Each P ds → P d
each_declared_as P [] text d e all = absurd (true≢false (ap is_none e))
each_declared_as P (x ∷ xs) text d e all = by (λ f. each_declared_as P xs text d f all.1) (bytes_eq text x.name) e
  where
    by : (declared_as xs text ≡ Some d → P d) → (b : Bool) → (if b then Some x else declared_as xs text) ≡ Some d → P d
    by later true e = subst P (same_Some x d e) all.0
    by later false e = later e

swapped : (m n : List ℕ) → bytes_eq m n ≡ false → bytes_eq n m ≡ false
swapped m n h =
    none_of (bytes_eq n m) (λ t. sym h ∙ (bytes_eq-Decides m n).1 (sym ((bytes_eq-Decides n m).0 t)))

still : (d : Decl) (es xs : List Decl) → is_declared xs d.name ≡ false → Each (λ x. declared_as es x.name ≡ Some x) xs
    → Each (λ x. declared_as (d ∷ es) x.name ≡ Some x) xs
still d es [] h k = tt
still d es (x ∷ xs) h k = (
  ap (λ b. if b then Some d else declared_as es x.name)
      (swapped d.name x.name (left_none (bytes_eq d.name x.name) (is_declared xs d.name) h)) ∙ k.0,
  still d es xs (right_none (bytes_eq d.name x.name) (is_declared xs d.name) h) k.1,
)

-- where names differ, each is declared under its own
pub all_declared : (ds : List Decl) → AreDifferent ds → Each (λ d. declared_as ds d.name ≡ Some d) ds
all_declared [] h = tt
all_declared (d ∷ ds) h = (
  ap (λ b. if b then Some d else declared_as ds d.name) ((bytes_eq-Decides d.name d.name).1 refl),
  still d ds ds h.0 (all_declared ds h.1),
)

-- ---- the parts of a design without hierarchy

module _ (ss : List Scope) where
  abbrev pub driver_parts : List Driver → List Part
  driver_parts xs = map (λ x. driver_part ss x.what) xs

  abbrev pub start_parts : List Start → List Part
  start_parts xs = map (start_part ss) xs

abbrev pub decl_parts : List Decl → List Part
decl_parts ds = map (λ d. declares d) ds

pub each_mapped : {A : Type 0} (P : Part → Type 0) (f : A → Part) (xs : List A) → Each P (map f xs) → Each (λ x. P (f x)) xs
each_mapped P f [] h = tt
each_mapped P f (x ∷ xs) h = (h.0, each_mapped P f xs h.1)

pub each_map_of : {A : Type 0} (P : Part → Type 0) (f : A → Part) (xs : List A) → Each (λ x. P (f x)) xs → Each P (map f xs)
each_map_of P f [] h = tt
each_map_of P f (x ∷ xs) h = (h.0, each_map_of P f xs h.1)
