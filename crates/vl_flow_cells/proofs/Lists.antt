-- What stands at a place of two lists, one behind the other, and at the place of a name.
use Rattle.std.specs.Prelude.{◌≡◌, refl, ℕ, zero, suc, ◌+◌, ◌<◌, List, [], ◌∷◌, ◌++◌, length, true, false}
use Rattle.std.specs.Prelude.{All, Some, is_none, slice_get, bytes_eq, if◌then◌else◌}
use Rattle.std.proofs.Common.{ap, sym, ◌∙◌, arith, subst, true≢false, ◌⊎◌, inl, inr}
use Rattle.std.proofs.lemmas.List.Elements.{All-head, All-tail}
use Rattle.std.proofs.lemmas.Option.{same_Some}
use Rattle.std.proofs.lemmas.Slice.Eq.{bytes_eq-Decides}
use Rattle.vl_size.specs.declared.decl.Decl.{Decl}
use Rattle.vl_size.specs.Table.{is_declared, declared_as, AreDifferent}
use Rattle.vl_mean.specs.Cells.{contains_name}
use Rattle.vl_flow_spec.proofs.Bools.{or_left, or_right, or_case, not_both, none_of}

pub get_less : {A : Type 0} (xs : List A) (k : ℕ) (x : A) → slice_get xs k ≡ Some x → k < length xs
get_less [] k x e = absurd (true≢false (ap is_none e))
get_less (z ∷ zs) zero x e = omega arith
get_less (z ∷ zs) (suc k) x e = let less = get_less zs k x e in omega (arith, less)

pub get_some : {A : Type 0} (xs : List A) (k : ℕ) → k < length xs → (x : A) × (slice_get xs k ≡ Some x)
get_some [] k h = absurd (omega (arith, h))
get_some (z ∷ zs) zero h = (z, refl)
get_some (z ∷ zs) (suc k) h = let less : k < length zs = omega (arith, h) in get_some zs k less

pub get_left : {A : Type 0} (xs ys : List A) (k : ℕ) (x : A) → slice_get xs k ≡ Some x
    → slice_get (xs ++ ys) k ≡ Some x
get_left [] ys k x e = absurd (true≢false (ap is_none e))
get_left (z ∷ zs) ys zero x e = e
get_left (z ∷ zs) ys (suc k) x e = get_left zs ys k x e

pub get_right : {A : Type 0} (xs ys : List A) (k c : ℕ) → c ≡ length xs + k
    → slice_get (xs ++ ys) c ≡ slice_get ys k
get_right [] ys k c e = let same : c ≡ k = omega (arith, e) in ap (slice_get ys) same
get_right (z ∷ zs) ys k zero e = absurd (omega (arith, e))
get_right (z ∷ zs) ys k (suc c) e = let less : c ≡ length zs + k = omega (arith, e) in get_right zs ys k c less

pub get_either : {A : Type 0} (xs ys : List A) (k : ℕ) (x : A) → slice_get (xs ++ ys) k ≡ Some x
    → (slice_get xs k ≡ Some x) ⊎ ((j : ℕ) × (k ≡ length xs + j) × (slice_get ys j ≡ Some x))
get_either [] ys k x e = inr (k, omega arith, e)
get_either (z ∷ zs) ys zero x e = inl e
get_either (z ∷ zs) ys (suc k) x e = by (get_either zs ys k x e)
  where
    by : (slice_get zs k ≡ Some x) ⊎ ((j : ℕ) × (k ≡ length zs + j) × (slice_get ys j ≡ Some x))
        → (slice_get zs k ≡ Some x) ⊎ ((j : ℕ) × (suc k ≡ suc (length zs) + j) × (slice_get ys j ≡ Some x))
    by (inl h) = inl h
    by (inr h) = inr (h.0, omega (arith, h.1), h.2)

-- ---- names

pub contained_at : (ns : List (List ℕ)) (k : ℕ) (n : List ℕ) → slice_get ns k ≡ Some n → contains_name ns n ≡ true
contained_at [] k n e = absurd (true≢false (ap is_none e))
contained_at (m ∷ ns) zero n e =
    or_left (bytes_eq n m) (contains_name ns n) ((bytes_eq-Decides n m).1 (sym (same_Some m n e)))
contained_at (m ∷ ns) (suc k) n e =
    or_right (bytes_eq n m) (contains_name ns n) (contained_at ns k n e)

pub place_in : (ns : List (List ℕ)) (n : List ℕ) → contains_name ns n ≡ true → (k : ℕ) × (slice_get ns k ≡ Some n)
place_in [] n h = absurd (true≢false (sym h))
place_in (m ∷ ns) n h =
    let first : bytes_eq n m ≡ true → (k : ℕ) × (slice_get (m ∷ ns) k ≡ Some n) =
    λ e. (0, ap Some (sym ((bytes_eq-Decides n m).0 e))) in
    let later : contains_name ns n ≡ true → (k : ℕ) × (slice_get (m ∷ ns) k ≡ Some n) =
    λ t. let r = place_in ns n t in (suc r.0, r.1) in
    or_case (bytes_eq n m) (contains_name ns n) first later h

declared_at : (ds : List Decl) (j : ℕ) (d : Decl) → slice_get ds j ≡ Some d → is_declared ds d.name ≡ true
declared_at [] j d e = absurd (true≢false (ap is_none e))
declared_at (x ∷ ds) zero d e =
    or_left (bytes_eq d.name x.name) (is_declared ds d.name)
    ((bytes_eq-Decides d.name x.name).1 (ap (λ y. y.name) (sym (same_Some x d e))))
declared_at (x ∷ ds) (suc j) d e =
    or_right (bytes_eq d.name x.name) (is_declared ds d.name) (declared_at ds j d e)

-- a declaration stands at one place
pub one_place : (ds : List Decl) → AreDifferent ds → (i j : ℕ) (d : Decl) → slice_get ds i ≡ Some d
    → slice_get ds j ≡ Some d → i ≡ j
one_place [] h i j d e f = absurd (true≢false (ap is_none e))
one_place (x ∷ ds) h zero zero d e f = refl
one_place (x ∷ ds) h zero (suc j) d e f =
    not_both (is_declared ds x.name)
    (ap (λ y. is_declared ds y.name) (same_Some x d e) ∙ declared_at ds j d f) h.0
one_place (x ∷ ds) h (suc i) zero d e f =
    not_both (is_declared ds x.name)
    (ap (λ y. is_declared ds y.name) (same_Some x d f) ∙ declared_at ds i d e) h.0
one_place (x ∷ ds) h (suc i) (suc j) d e f = ap suc (one_place ds h.1 i j d e f)

-- each is declared under its own name
pub declared_own : (ds : List Decl) → AreDifferent ds → (j : ℕ) (d : Decl) → slice_get ds j ≡ Some d
    → declared_as ds d.name ≡ Some d
declared_own [] h j d e = absurd (true≢false (ap is_none e))
declared_own (x ∷ ds) h zero d e =
    let own : bytes_eq d.name x.name ≡ true =
    (bytes_eq-Decides d.name x.name).1 (ap (λ y. y.name) (sym (same_Some x d e))) in
    ap (λ b. if b then Some x else declared_as ds d.name) own ∙ e
declared_own (x ∷ ds) h (suc j) d e =
    let other : bytes_eq d.name x.name ≡ false =
    none_of (bytes_eq d.name x.name) (λ t.
    not_both (is_declared ds d.name) (declared_at ds j d e)
    (ap (is_declared ds) ((bytes_eq-Decides d.name x.name).0 t) ∙ h.0)) in
    ap (λ b. if b then Some x else declared_as ds d.name) other ∙ declared_own ds h.1 j d e

pub all_at : {A : Type 0} (P : A → Type 0) (xs : List A) (j : ℕ) (x : A) → slice_get xs j ≡ Some x → All P xs → P x
all_at P [] j x e h = absurd (true≢false (ap is_none e))
all_at P (y ∷ ys) zero x e h = subst P (same_Some y x e) (All-head P y ys h)
all_at P (y ∷ ys) (suc j) x e h = all_at P ys j x e (All-tail P y ys h)
