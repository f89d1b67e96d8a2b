-- Whether some bit of a name is there, and the first name and the lowest bit.
use Rattle.std.specs.Prelude.{◌≡◌, refl, ℕ, zero, suc, ◌<◌, ◌==◌, List, [], ◌∷◌, length, Bool, true, false}
use Rattle.std.specs.Prelude.{◌&&◌, ◌||◌, is_none, bytes_eq, Option, Some, None, if◌then◌else◌}
use Rattle.std.proofs.Common.{ap, sym, ◌∙◌, arith, subst, true≢false}
use Rattle.std.proofs.lemmas.Bool.Decides.{nat_tests}
use Rattle.std.proofs.lemmas.Option.{same_Some}
use Rattle.std.proofs.lemmas.Slice.Eq.{bytes_eq-Decides}
use Rattle.fv_text.specs.declared.pos.Pos.{Pos}
use Rattle.vl_size.specs.declared.decl.Decl.{Decl}
use Rattle.vl_size.specs.Places.{is_earlier}
use Rattle.vl_mean.specs.Cells.{contains_name, cells, is_cell}
use Rattle.vl_mean.specs.Runs.{Each}
use Rattle.vl_flow_spec.specs.Reads.{Bits}
use Rattle.vl_flow_spec.proofs.Bools.{or_left, or_right, or_case}
use Rattle.vl_flow_spec.specs.Refusals.{first_below, some_below, some_cell, has_bit, first_of_names, with_place}
use Rattle.vl_flow_spec.specs.Refusals.{in_order}

-- ---- bits

pub below_has : (p : ℕ → Bool) (n i : ℕ) → i < n → p i ≡ true → some_below p n ≡ true
below_has p zero i less h = absurd (omega (arith, less))
below_has p (suc n) i less h =
    by (λ under. below_has p n i under h) (i == n) refl
  where
    by : (i < n → some_below p n ≡ true) → (b : Bool) → (i == n) ≡ b → (p n || some_below p n) ≡ true
    by f true e =
        let same : i ≡ n = grind (arith, nat_tests, e) in
        or_left (p n) (some_below p n) (subst (λ j. p j ≡ true) same h)
    by f false e = or_right (p n) (some_below p n) (f (grind (arith, nat_tests, e, less)))

pub below_found : (p : ℕ → Bool) (n : ℕ) → some_below p n ≡ true → (i : ℕ) × (i < n) × (p i ≡ true)
below_found p zero h = absurd (true≢false (sym h))
below_found p (suc n) h =
    or_case (p n) (some_below p n) (λ t. (n, omega arith, t))
    (λ t. let r = below_found p n t in (r.0, omega (arith, r.1), r.2)) h

pub cell_has : (K : Bits) (w : ℕ) (ns : List (List ℕ)) (n : List ℕ) (i : ℕ) → contains_name ns n ≡ true → i < w
    → K n i ≡ true → some_cell K w ns ≡ true
cell_has K w [] n i c less h = absurd (true≢false (sym c))
cell_has K w (m ∷ ns) n i c less h =
    or_case (bytes_eq n m) (contains_name ns n)
    (λ t. or_left (some_below (λ j. K m j) w) (some_cell K w ns)
    (below_has (λ j. K m j) w i less (subst (λ q. K q i ≡ true) ((bytes_eq-Decides n m).0 t) h)))
    (λ t. or_right (some_below (λ j. K m j) w) (some_cell K w ns) (cell_has K w ns n i t less h)) c

pub cell_found : (K : Bits) (w : ℕ) (ns : List (List ℕ)) → some_cell K w ns ≡ true
    → (n : List ℕ) × (i : ℕ) × (contains_name ns n ≡ true) × (i < w) × (K n i ≡ true)
cell_found K w [] h = absurd (true≢false (sym h))
cell_found K w (m ∷ ns) h =
    or_case (some_below (λ j. K m j) w) (some_cell K w ns)
    (λ t. let r = below_found (λ j. K m j) w t in
    (m, r.0, or_left (bytes_eq m m) (contains_name ns m) ((bytes_eq-Decides m m).1 refl), r.1, r.2))
    (λ t. let r = cell_found K w ns t in
    (r.0, r.1, or_right (bytes_eq r.0 m) (contains_name ns r.0) r.2, r.3, r.4)) h

pub has_it : (K : Bits) (d : Decl) (n : List ℕ) (i : ℕ) → is_cell d.name d.words n ≡ true → i < d.width
    → K n i ≡ true → has_bit K d ≡ true
has_it K d n i c less h = cell_has K d.width (cells d) n i c less h

pub bit_found : (K : Bits) (d : Decl) → has_bit K d ≡ true
    → (n : List ℕ) × (i : ℕ) × (is_cell d.name d.words n ≡ true) × (i < d.width) × (K n i ≡ true)
bit_found K d h = cell_found K d.width (cells d) h

-- where one set covers another, it has a bit of each name of which that has one
pub more_bits : (K J : Bits) → ((n : List ℕ) (i : ℕ) → J n i ≡ true → K n i ≡ true) → (d : Decl)
    → has_bit J d ≡ true → has_bit K d ≡ true
more_bits K J c d h =
    let r = cell_found J d.width (cells d) h in cell_has K d.width (cells d) r.0 r.1 r.2 r.3 (c r.0 r.1 r.4)

-- ---- the lowest

first_none : (b c : Bool) (n : ℕ) (o : Option ℕ) → (if is_none o && c then Some n else o) ≡ None
    → (o ≡ None) × (c ≡ false)
first_none b c n (Some x) e = absurd (true≢false (sym (ap is_none e)))
first_none b true n None e = absurd (true≢false (sym (ap is_none e)))
first_none b false n None e = (refl, refl)

pub none_below : (p : ℕ → Bool) (n : ℕ) → first_below p n ≡ None → (i : ℕ) → i < n → p i ≡ false
none_below p zero e i less = absurd (omega (arith, less))
none_below p (suc n) e i less = by (λ f. none_below p n f i) (first_none true (p n) n (first_below p n) e)
  where
    at : (b : Bool) → (i == n) ≡ b → (i < n → p i ≡ false) → p n ≡ false → p i ≡ false
    at true t f g =
        let same : n ≡ i = grind (arith, nat_tests, t) in subst (λ j. p j ≡ false) same g
    at false t f g = f (grind (arith, nat_tests, t, less))

    by : (first_below p n ≡ None → i < n → p i ≡ false) → (first_below p n ≡ None) × (p n ≡ false) → p i ≡ false
    by f r = at (i == n) refl (f r.0) r.1

pub lowest_is : (p : ℕ → Bool) (n i : ℕ) → first_below p n ≡ Some i → p i ≡ true
lowest_is p zero i e = absurd (true≢false (ap is_none e))
lowest_is p (suc n) i e = by (λ f. lowest_is p n i f) (first_below p n) refl (p n) refl e
  where
    by : (first_below p n ≡ Some i → p i ≡ true) → (o : Option ℕ) → first_below p n ≡ o → (b : Bool) → p n ≡ b
        → (if is_none o && b then Some n else o) ≡ Some i → p i ≡ true
    by f (Some x) g b h e = f (g ∙ e)
    by f None g true h e =
        let same : n ≡ i = same_Some n i e in subst (λ j. p j ≡ true) same h
    by f None g false h e = absurd (true≢false (ap is_none e))

-- ---- the first name

pub none_of_names : {A : Type 0} (f : Decl → Option A) (ds : List Decl) → first_of_names f ds ≡ None
    → Each (λ d. f d ≡ None) ds
none_of_names {A = A} f [] e = tt
none_of_names {A = A} f (d ∷ ds) e = by (λ g. none_of_names f ds g) (f d) refl e
  where
    by : (first_of_names f ds ≡ None → Each (λ d. f d ≡ None) ds) → (o : Option A) → f d ≡ o
        → (if is_none o then first_of_names f ds else o) ≡ None → (f d ≡ None) × Each (λ d. f d ≡ None) ds
    by g (Some x) h e = absurd (true≢false (sym (ap is_none e)))
    by g None h e = (h, g e)

-- ---- places in order

pub placed : (p : Pos) (qs : List Pos) → length (with_place p qs) ≡ suc (length qs)
placed p [] = refl
placed p (q ∷ qs) = by (placed p qs) (is_earlier q p)
  where
    by : length (with_place p qs) ≡ suc (length qs) → (b : Bool)
        → length (if b then q ∷ with_place p qs else p ∷ q ∷ qs) ≡ suc (suc (length qs))
    by e true = ap suc e
    by e false = refl

pub ordered : (ps : List Pos) → length (in_order ps) ≡ length ps
ordered [] = refl
ordered (p ∷ ps) = placed p (in_order ps) ∙ ap suc (ordered ps)
