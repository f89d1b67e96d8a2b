-- Lists of different texts, and where a text stands among them.
use Rattle.std.specs.Prelude.{◌≡◌, refl, ℕ, zero, suc, ◌+◌, ◌<◌, List, [], ◌∷◌, ◌++◌, length, map, Bool, true}
use Rattle.std.specs.Prelude.{false, not}
use Rattle.std.specs.Prelude.{Some, None, bytes_eq, nat_lt, position}
use Rattle.std.specs.List.{AllByRecursion, position_or_len}
use Rattle.std.proofs.Common.{ap, sym, ◌∙◌, arith, cond, get_or}
use Rattle.std.proofs.lemmas.Bool.Decides.{nat_tests}
use Rattle.std.proofs.lemmas.Slice.Eq.{bytes_eq-Decides}
use Rattle.vl_lower_spec.specs.Maps.{number_or}

-- none of the texts is the text
abbrev pub Lacks : List (List ℕ) → List ℕ → Type 0
Lacks ts t = AllByRecursion (λ u. bytes_eq t u ≡ false) ts

abbrev pub Different : List (List ℕ) → Type 0
Different [] = Unit {0}
Different (t ∷ ts) = Lacks ts t × Different ts

other_way : (t u : List ℕ) → bytes_eq t u ≡ false → bytes_eq u t ≡ false
other_way t u h = by (bytes_eq u t) refl
  where
    by : (b : Bool) → bytes_eq u t ≡ b → bytes_eq u t ≡ false
    by true e =
        let same : bytes_eq t u ≡ true = (bytes_eq-Decides t u).1 (sym ((bytes_eq-Decides u t).0 e)) in
        e ∙ sym same ∙ h
    by false e = e

pub lacks_front : (xs ys : List (List ℕ)) (t : List ℕ) → Lacks (xs ++ ys) t → Lacks xs t
lacks_front [] ys t h = tt
lacks_front (x ∷ xs) ys t h = (h.0, lacks_front xs ys t h.1)

pub lacks_back : (xs ys : List (List ℕ)) (t : List ℕ) → Lacks (xs ++ ys) t → Lacks ys t
lacks_back [] ys t h = h
lacks_back (x ∷ xs) ys t h = lacks_back xs ys t h.1

pub different_front : (xs ys : List (List ℕ)) → Different (xs ++ ys) → Different xs
different_front [] ys h = tt
different_front (x ∷ xs) ys h = (lacks_front xs ys x h.0, different_front xs ys h.1)

pub different_back : (xs ys : List (List ℕ)) → Different (xs ++ ys) → Different ys
different_back [] ys h = h
different_back (x ∷ xs) ys h = different_back xs ys h.1

-- no text of the second list is one of the first
pub apart : (xs ys : List (List ℕ)) → Different (xs ++ ys) → AllByRecursion (Lacks xs) ys
apart [] ys h = none ys
  where
    none : (ts : List (List ℕ)) → AllByRecursion (Lacks []) ts
    none [] = tt
    none (t ∷ ts) = (tt, none ts)
apart (x ∷ xs) ys h = both ys (lacks_back xs ys x h.0) (apart xs ys h.1)
  where
    both : (ts : List (List ℕ)) → Lacks ts x → AllByRecursion (Lacks xs) ts → AllByRecursion (Lacks (x ∷ xs)) ts
    both [] l all = tt
    both (t ∷ ts) l all = ((other_way x t l.0, all.0), both ts l.1 all.1)

-- ---- the place of a text

module _ (t : List ℕ) where
  further : (u : List ℕ) (ts : List (List ℕ)) (n : ℕ) → bytes_eq t u ≡ false → position_or_len (bytes_eq t) ts ≡ n
      → position_or_len (bytes_eq t) (u ∷ ts) ≡ suc n
  further u ts n e f =
      let next : 1 + n ≡ suc n = omega arith in
      ap (λ b. cond (not b) (1 + position_or_len (bytes_eq t) ts) 0) e ∙ ap (λ k. 1 + k) f ∙ next

  past_all : (ts : List (List ℕ)) → Lacks ts t → position_or_len (bytes_eq t) ts ≡ length ts
  past_all [] h = refl
  past_all (u ∷ ts) h = further u ts (length ts) h.0 (past_all ts h.1)

  -- it isn't there
  pub no_place : (ts : List (List ℕ)) → Lacks ts t → position (bytes_eq t) ts ≡ None
  no_place ts h =
      let none : nat_lt (length ts) (length ts) ≡ false = grind (arith, nat_tests) in
      ap (λ k. cond (nat_lt k (length ts)) (Some k) None) (past_all ts h)
      ∙ ap (λ b. cond b (Some (length ts)) None) none

-- the text at a place of different ones
first_place : (ts : List (List ℕ)) (k : ℕ) → Different ts → k < length ts
    → position_or_len (bytes_eq (get_or ts k [])) ts ≡ k
first_place [] k h less = absurd (omega (arith, less))
first_place (t ∷ ts) zero h less =
    ap (λ b. cond (not b) (1 + position_or_len (bytes_eq t) ts) 0) ((bytes_eq-Decides t t).1 refl)
first_place (t ∷ ts) (suc k) h less =
    let before : k < length ts = omega (arith, less) in
    let u = get_or ts k [] in
    further u t ts k (other_way t u (at ts k h.0 before)) (first_place ts k h.1 before)
  where
    at : (us : List (List ℕ)) (j : ℕ) → Lacks us t → j < length us → bytes_eq t (get_or us j []) ≡ false
    at [] j l f = absurd (omega (arith, f))
    at (u ∷ us) zero l f = l.0
    at (u ∷ us) (suc j) l f = at us j l.1 (omega (arith, f))

pub place_is : (ts : List (List ℕ)) (k : ℕ) → Different ts → k < length ts
    → position (bytes_eq (get_or ts k [])) ts ≡ Some k
place_is ts k h less =
    let there : nat_lt k (length ts) ≡ true = grind (arith, nat_tests, less) in
    ap (λ n. cond (nat_lt n (length ts)) (Some n) None) (first_place ts k h less)
    ∙ ap (λ b. cond b (Some k) None) there

-- numbers are those of a function of texts, one by one
same_numbers : (vs : List ℕ) (ts : List (List ℕ)) (f : List ℕ → ℕ) → length vs ≡ length ts
    → ((k : ℕ) → k < length ts → f (get_or ts k []) ≡ get_or vs k 0) → vs ≡ map f ts
same_numbers [] [] f e h = refl
same_numbers [] (t ∷ ts) f e h = absurd (omega (arith, e))
same_numbers (v ∷ vs) [] f e h = absurd (omega (arith, e))
same_numbers (v ∷ vs) (t ∷ ts) f e h =
    let first : f t ≡ v = h 0 (omega arith) in
    let more : length vs ≡ length ts = omega (arith, e) in
    let rest = same_numbers vs ts f more (λ k less. h (suc k) (omega (arith, less))) in
    λ i. sym first i ∷ rest i

-- the numbers by the places of different texts
pub by_places : (vs : List ℕ) (ts : List (List ℕ)) (at : ℕ → ℕ) (other : List ℕ → ℕ) → Different ts
    → length vs ≡ length ts → ((k : ℕ) → k < length ts → at k ≡ get_or vs k 0)
    → vs ≡ map (λ t. number_or (position (bytes_eq t) ts) at (other t)) ts
by_places vs ts at other h e same =
    same_numbers vs ts (λ t. number_or (position (bytes_eq t) ts) at (other t)) e
    (λ k less. ap (λ o. number_or o at (other (get_or ts k []))) (place_is ts k h less) ∙ same k less)

-- those of texts that aren't there
pub by_others : (ts us : List (List ℕ)) (at : ℕ → ℕ) (other : List ℕ → ℕ) → AllByRecursion (Lacks ts) us
    → map other us ≡ map (λ t. number_or (position (bytes_eq t) ts) at (other t)) us
by_others ts [] at other h = refl
by_others ts (u ∷ us) at other h =
    let here = ap (λ o. number_or o at (other u)) (no_place u ts h.0) in
    let more = by_others ts us at other h.1 in
    λ i. sym here i ∷ more i
