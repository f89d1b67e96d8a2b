-- Two clauses have the same literals exactly where these are the same in order.
use Rattle.std.proofs.Common.{ℕ, zero, suc, ◌<◌, length, map, get_or, pos, w64, to_z, of_z, arith}
use Rattle.std.proofs.Common.{◌≡◌, Bool, true, false, ◌||◌, ◌&&◌, not, cond, List, [], ◌∷◌, ◌++◌, ℤ, refl, ap, sym}
use Rattle.std.proofs.Common.{◌∙◌, inl, inr}
use Rattle.std.specs.declared.cmp.Ordering.{Ordering}
use Rattle.std.specs.declared.cmp.Ordering.TheVariants.{Less, Equal, Greater}
use Rattle.std.specs.Ordering.{int_cmp, int_eq, is_eq, match_ordering}
use Rattle.std.specs.Cmp.{both_ways}
use Rattle.std.specs.Cmp.Rules.{signed_items}
use Rattle.std.specs.Cmp.Lexicographic.{pointwise}
use Rattle.std.specs.List.{AllByRecursion, list_all, list_any}
use Rattle.std.specs.List.Sorted.{IsStrictlySortedBy}
use Rattle.std.specs.BTreeSet.{BTreeSet, insert_key}
use Rattle.std.proofs.lemmas.Bool.{false≢true, and_from, and_parts}
use Rattle.std.proofs.lemmas.Cmp.{int_cmp_total}
use Rattle.std.proofs.lemmas.Map.Lookups.{btree_set_from_contains}
use Rattle.lrat_check.specs.Sets.{has, within, same_set, AreLits}
use Rattle.sat_trail.proofs.Codes.{lit_kept}
use Rattle.sat_trail.proofs.Members.{same_is, or_cases, has_head, has_tail}
use Rattle.sat_trail.specs.Known.{Clauses, contains}
use Rattle.sat_trail.specs.Sorted.{sorted, sorted_into}

all_from : (p : ℤ → Bool) (c : List ℤ) → ((x : ℤ) → has c x ≡ true → p x ≡ true) → list_all p c ≡ true
all_from p [] h = refl
all_from p (l ∷ ls) h =
    and_from (p l) (list_all p ls) (h l (has_head l ls)) (all_from p ls (λ x k. h x (has_tail x l ls k)))

all_at : (p : ℤ → Bool) (c : List ℤ) (x : ℤ) → list_all p c ≡ true → has c x ≡ true → p x ≡ true
all_at p [] x a h = absurd (false≢true h)
all_at p (l ∷ ls) x a h = let q = and_parts (p l) (list_all p ls) a in elim (or_cases (int_eq x l) (has ls x) h) [
  | inl e ↦ ap p (same_is x l e) ∙ q.0
  | inr e ↦ all_at p ls x q.1 e
]

or_again : (a b : Bool) → (a || b) ≡ (a || (a || b))
or_again true b = refl
or_again false b = refl

or_swap : (a b c : Bool) → (a || (b || c)) ≡ (b || (a || c))
or_swap true true c = refl
or_swap true false c = refl
or_swap false b c = refl

or_move : (a b c : Bool) → ((a || b) || c) ≡ (b || (a || c))
or_move true true c = refl
or_move true false c = refl
or_move false b c = refl

has_insert : (ks : List ℤ) (k x : ℤ) → has (insert_key int_cmp ks k) x ≡ (int_eq x k || has ks x)
has_insert [] k x = refl
has_insert (y ∷ ys) k x = by (int_cmp k y) refl (has_insert ys k x) where
  by : (r : Ordering) → int_cmp k y ≡ r → has (insert_key int_cmp ys k) x ≡ (int_eq x k || has ys x)
      → has (match_ordering r (k ∷ y ∷ ys) (y ∷ ys) (y ∷ insert_key int_cmp ys k)) x
      ≡ (int_eq x k || (int_eq x y || has ys x))
  by Less e more = refl
  by Equal e more =
      let s : k ≡ y = same_is k y (ap is_eq e) in
      or_again (int_eq x y) (has ys x) ∙ ap (λ z. int_eq x z || (int_eq x y || has ys x)) (sym s)
  by Greater e more = ap (λ z. int_eq x y || z) more ∙ or_swap (int_eq x y) (int_eq x k) (has ys x)

-- the literal is below each of the keys
abbrev Below : ℤ → List ℤ → Type 0
Below k ks = AllByRecursion (λ y. int_cmp k y ≡ Less) ks

-- each key is below those behind it
abbrev Ordered : List ℤ → Type 0
Ordered [] = Unit {0}
Ordered (k ∷ ks) = Below k ks × Ordered ks

strictly_ordered : (ks : List ℤ) → Ordered ks → IsStrictlySortedBy int_cmp ks
unfolding IsStrictlySortedBy
strictly_ordered [] h = h
strictly_ordered (k ∷ ks) h = (h.0, strictly_ordered ks h.1)

below_more : (k y : ℤ) (ys : List ℤ) → int_cmp k y ≡ Less → Below y ys → Below k ys
below_more k y [] e h = tt
below_more k y (z ∷ zs) e h = (int_cmp_total.trans k y z e h.0, below_more k y zs e h.1)

below_insert : (y : ℤ) (ks : List ℤ) (k : ℤ) → int_cmp y k ≡ Less → Below y ks → Below y (insert_key int_cmp ks k)
below_insert y [] k e h = (e, tt)
below_insert y (z ∷ zs) k e h = by (int_cmp k z) (below_insert y zs k e h.1) where
  by : (r : Ordering) → Below y (insert_key int_cmp zs k)
      → Below y (match_ordering r (k ∷ z ∷ zs) (z ∷ zs) (z ∷ insert_key int_cmp zs k))
  by Less more = (e, h)
  by Equal more = h
  by Greater more = (h.0, more)

less_of : (r : Ordering) (a b : ℤ) → int_cmp a b ≡ Greater → int_cmp b a ≡ r → r ≡ Less
less_of Less a b e f = refl
less_of Equal a b e f = cc (int_cmp_total.antisymm a b)
less_of Greater a b e f = cc (int_cmp_total.antisymm a b)

ordered_insert : (ks : List ℤ) (k : ℤ) → Ordered ks → Ordered (insert_key int_cmp ks k)
ordered_insert [] k h = (tt, tt)
ordered_insert (y ∷ ys) k h = by (int_cmp k y) refl (ordered_insert ys k h.1) where
  by : (r : Ordering) → int_cmp k y ≡ r → Ordered (insert_key int_cmp ys k)
      → Ordered (match_ordering r (k ∷ y ∷ ys) (y ∷ ys) (y ∷ insert_key int_cmp ys k))
  by Less e more = ((e, below_more k y ys e h.0), h)
  by Equal e more = h
  by Greater e more =
      let less : int_cmp y k ≡ Less = less_of (int_cmp y k) k y e refl in
      (below_insert y ys k less h.0, more)

has_into : (keys lits : List ℤ) (x : ℤ) → has (sorted_into keys lits) x ≡ (has lits x || has keys x)
has_into keys [] x = refl
has_into keys (l ∷ ls) x =
    has_into (insert_key int_cmp keys l) ls x ∙ ap (λ z. has ls x || z) (has_insert keys l x)
    ∙ sym (or_move (int_eq x l) (has ls x) (has keys x))

or_false : (a : Bool) → (a || false) ≡ a
or_false true = refl
or_false false = refl

has_sorted : (lits : List ℤ) (x : ℤ) → has (sorted lits) x ≡ has lits x
has_sorted lits x = has_into [] lits x ∙ or_false (has lits x)

ordered_into : (keys lits : List ℤ) → Ordered keys → Ordered (sorted_into keys lits)
ordered_into keys [] h = h
ordered_into keys (l ∷ ls) h = ordered_into (insert_key int_cmp keys l) ls (ordered_insert keys l h)

ordered : (lits : List ℤ) → Ordered (sorted lits)
ordered lits = ordered_into [] lits tt

to_same : (a b : List ℤ) → sorted b ≡ sorted a → same_set a b ≡ true
to_same a b e =
    and_from (within a b) (within b a)
    (all_from (has b) a (λ x h. sym (has_sorted b x) ∙ ap (λ z. has z x) e ∙ has_sorted a x ∙ h))
    (all_from (has a) b (λ x h. sym (has_sorted a x) ∙ ap (λ z. has z x) (sym e) ∙ has_sorted b x ∙ h))

same_has : (a b : List ℤ) → same_set a b ≡ true → (x : ℤ) → has b x ≡ has a x
same_has a b h x =
    let p = and_parts (within a b) (within b a) h in
    both_ways (has b x) (has a x) (all_at (has a) b x p.1) (all_at (has b) a x p.0)

from_same : (a b : List ℤ) → same_set a b ≡ true → sorted b ≡ sorted a
from_same a b h =
    let s : BTreeSet ℤ = record { keys = sorted b } in
    let t : BTreeSet ℤ = record { keys = sorted a } in
    btree_set_from_contains int_cmp_total s t (strictly_ordered (sorted b) (ordered b)) (strictly_ordered (sorted a) (ordered a))
    (λ x. has_sorted b x ∙ same_has a b h x ∙ sym (has_sorted a x)) (λ x y e. same_is x y (ap is_eq e))

pub sorted_same : (a b : List ℤ) → pointwise int_eq (sorted b) (sorted a) ≡ same_set a b
sorted_same a b = both_ways (pointwise int_eq (sorted b) (sorted a)) (same_set a b)
    (λ h. to_same a b ((signed_items (sorted b) (sorted a)).0 h))
    (λ h. (signed_items (sorted b) (sorted a)).1 (from_same a b h))

pub into_more : (keys lits : List ℤ) (l : ℤ)
    → sorted_into keys (lits ++ l ∷ []) ≡ insert_key int_cmp (sorted_into keys lits) l
into_more keys [] l = refl
into_more keys (m ∷ ms) l = into_more (insert_key int_cmp keys m) ms l

pub with_key : (b old : Bool) → cond b true old ≡ (b || old)
with_key true old = refl
with_key false old = refl

pub without_key : (b old : Bool) → cond b false old ≡ (not b && old)
without_key true old = refl
without_key false old = refl

-- a literal that is read from a clause
pub kept_at : (lits : List ℤ) (place : ℕ) → AreLits lits → place < length lits
    → to_z w64 (of_z w64 (get_or lits place (pos 0))) ≡ get_or lits place (pos 0)
kept_at [] place a h = absurd (omega (arith, h))
kept_at (l ∷ ls) zero a h = lit_kept l a.0
kept_at (l ∷ ls) (suc place) a h = kept_at ls place a.1 (omega (arith, h))

-- a clause with the same literals is as much in the set
pub contains_same : (set : Clauses) (a b : List ℤ) → same_set a b ≡ true → contains set a ≡ contains set b
contains_same set a b h = ap (λ z. list_any (pointwise int_eq z) set) (sym (from_same a b h))

any_keys : (p : List ℤ → Bool) (keys : List (BTreeSet ℤ))
    → list_any p (map (λ key. key.keys) keys) ≡ list_any (λ key. p key.keys) keys
any_keys p [] = refl
any_keys p (k ∷ ks) = ap (λ b. p k.keys || b) (any_keys p ks)

-- by the keys that the code holds
pub contains_keys : (keys : List (BTreeSet ℤ)) (clause : List ℤ)
    → contains (map (λ key. key.keys) keys) clause ≡ list_any (λ key. pointwise int_eq (sorted clause) key.keys) keys
contains_keys keys clause = any_keys (pointwise int_eq (sorted clause)) keys
