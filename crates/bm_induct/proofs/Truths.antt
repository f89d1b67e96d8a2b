-- What holds in all of some cycles, and in one of them.
use Rattle.std.specs.Prelude.{◌≡◌, refl, ℕ, zero, suc, ◌+◌, ◌<◌, ◌≤◌, ◌==◌, Bool, true, false, not, ◌&&◌, ◌||◌, nat_lt}
use Rattle.std.specs.Prelude.{List, [], ◌∷◌, ◌++◌}
use Rattle.std.specs.List.{AllByRecursion}
use Rattle.std.proofs.Common.{ap, sym, ◌∙◌, arith, subst}
use Rattle.std.proofs.lemmas.Bool.{eqb-true, eq-eqb}
use Rattle.std.proofs.lemmas.Bool.Decides.{nat_tests}
use Rattle.bm_induct.specs.Past.{all_other, fails_first, fails_last, in_all, in_some, is_met}

-- ---- both, one, and not

pub both_first : (a b : Bool) → (a && b) ≡ true → a ≡ true
both_first true b e = refl
both_first false b e = e

pub both_second : (a b : Bool) → (a && b) ≡ true → b ≡ true
both_second true b e = e
both_second false b e = cc

pub both_of : (a b : Bool) → a ≡ true → b ≡ true → (a && b) ≡ true
both_of true b e f = f
both_of false b e f = cc

-- a number other than 0
pub other_is : (n : ℕ) → not (n == 0) ≡ true → n ≡ 0 → ⊥
other_is n e z = by (n == 0) e (eq-eqb n 0 z)
  where
    by : (b : Bool) → not b ≡ true → b ≡ true → ⊥
    by true e f = cc
    by false e f = cc

pub is_other : (n : ℕ) → (n ≡ 0 → ⊥) → not (n == 0) ≡ true
is_other n h = by (n == 0) refl
  where
    by : (b : Bool) → (n == 0) ≡ b → not b ≡ true
    by true e = absurd (h (eqb-true n 0 e))
    by false e = refl

pub zero_of : (n : ℕ) → not (not (n == 0)) ≡ true → n ≡ 0
zero_of n e = by (n == 0) refl e
  where
    by : (b : Bool) → (n == 0) ≡ b → not (not b) ≡ true → n ≡ 0
    by true f g = eqb-true n 0 f
    by false f g = cc

pub of_zero : (n : ℕ) → n ≡ 0 → not (not (n == 0)) ≡ true
of_zero n e = ap (λ b. not (not b)) (eq-eqb n 0 e)

-- ---- cycles

pub all_held : (f : ℕ → Bool) (k : ℕ) → in_all f k ≡ true → (j : ℕ) → j < k → f j ≡ true
all_held f zero e j less = absurd (omega (arith, less))
all_held f (suc k) e j less = by (nat_lt j k) refl (all_held f k (both_first (in_all f k) (f k) e))
  where
    by : (b : Bool) → nat_lt j k ≡ b → ((i : ℕ) → i < k → f i ≡ true) → f j ≡ true
    by true t earlier = earlier j (grind (arith, nat_tests, t))
    by false t earlier =
        let last : k ≡ j = grind (arith, nat_tests, t, less) in
        subst (λ i. f i ≡ true) last (both_second (in_all f k) (f k) e)

pub held_all : (f : ℕ → Bool) (k : ℕ) → ((j : ℕ) → j < k → f j ≡ true) → in_all f k ≡ true
held_all f zero h = refl
held_all f (suc k) h =
    both_of (in_all f k) (f k) (held_all f k (λ j less. h j (omega (arith, less)))) (h k (omega arith))

-- one of the first cycles
pub record IsFound (f : ℕ → Bool) (k : ℕ) : Type 0 where
  pub at : ℕ
  pub below : at < k
  pub holds : f at ≡ true

before_last : (a b : Bool) → b ≡ false → (a || b) ≡ true → a ≡ true
before_last true b none one = refl
before_last false b none one = absurd (differ b none one)
  where
    differ : (b : Bool) → b ≡ false → b ≡ true → ⊥
    differ true none one = cc
    differ false none one = cc

pub some_found : (f : ℕ → Bool) (k : ℕ) → in_some f k ≡ true → IsFound f k
some_found f zero e = cc
some_found f (suc k) e = by (f k) refl (some_found f k)
  where
    by : (b : Bool) → f k ≡ b → (in_some f k ≡ true → IsFound f k) → IsFound f (suc k)
    by true t earlier = record { at = k; below = omega arith; holds = t }
    by false t earlier =
        let found = earlier (before_last (in_some f k) (f k) t e) in
        record { at = found.at; below = omega (arith, found.below); holds = found.holds }

one_of : (a b : Bool) → b ≡ true → (a || b) ≡ true
one_of true b e = refl
one_of false b e = e

first_of : (a b : Bool) → a ≡ true → (a || b) ≡ true
first_of true b e = refl
first_of false b e = cc

pub found_some : (f : ℕ → Bool) (k j : ℕ) → j < k → f j ≡ true → in_some f k ≡ true
found_some f zero j less e = absurd (omega (arith, less))
found_some f (suc k) j less e = by (nat_lt j k) refl (λ l. found_some f k j l e)
  where
    by : (b : Bool) → nat_lt j k ≡ b → (j < k → in_some f k ≡ true) → in_some f (suc k) ≡ true
    by true t earlier = first_of (in_some f k) (f k) (earlier (grind (arith, nat_tests, t)))
    by false t earlier =
        let last : j ≡ k = grind (arith, nat_tests, t, less) in
        one_of (in_some f k) (f k) (subst (λ i. f i ≡ true) last e)

-- by the same values in each cycle
pub same_some : (f g : ℕ → Bool) (k : ℕ) → ((j : ℕ) → f j ≡ g j) → in_some f k ≡ in_some g k
same_some f g zero same = refl
same_some f g (suc k) same = λ i. same_some f g k same i || same k i

pub same_all : (f g : ℕ → Bool) (k : ℕ) → ((j : ℕ) → f j ≡ g j) → in_all f k ≡ in_all g k
same_all f g zero same = refl
same_all f g (suc k) same = λ i. same_all f g k same i && same k i

-- ---- nodes

pub same_other : (v w : ℕ → ℕ) (ids : List ℕ) → AllByRecursion (λ id. v id ≡ w id) ids
    → all_other v ids ≡ all_other w ids
same_other v w [] same = refl
same_other v w (id ∷ ids) same = λ i. not (same.0 i == 0) && same_other v w ids same.1 i

pub others : (v : ℕ → ℕ) (ids : List ℕ) → all_other v ids ≡ true → AllByRecursion (λ id. v id ≡ 0 → ⊥) ids
others v [] e = tt
others v (id ∷ ids) e = (
  other_is (v id) (both_first (not (v id == 0)) (all_other v ids) e),
  others v ids (both_second (not (v id == 0)) (all_other v ids) e),
)

pub all_others : (v : ℕ → ℕ) (ids : List ℕ) → AllByRecursion (λ id. v id ≡ 0 → ⊥) ids → all_other v ids ≡ true
all_others v [] h = refl
all_others v (id ∷ ids) h =
    both_of (not (v id == 0)) (all_other v ids) (is_other (v id) h.0) (all_others v ids h.1)

-- one node more
pub other_push : (v : ℕ → ℕ) (ids : List ℕ) (id : ℕ)
    → all_other v (ids ++ id ∷ []) ≡ (all_other v ids && not (v id == 0))
other_push v [] id = and_true (not (v id == 0))
  where
    and_true : (b : Bool) → (b && true) ≡ (true && b)
    and_true true = refl
    and_true false = refl
other_push v (x ∷ xs) id =
    ap (λ b. not (v x == 0) && b) (other_push v xs id)
    ∙ sym (and_assoc (not (v x == 0)) (all_other v xs) (not (v id == 0)))
  where
    and_assoc : (a b c : Bool) → ((a && b) && c) ≡ (a && (b && c))
    and_assoc true b c = refl
    and_assoc false b c = refl

-- ---- both halves

pub record IsFirst (ids : List ℕ) (bad : ℕ) (v : ℕ → ℕ → ℕ) (j : ℕ) : Type 0 where
  pub some : 1 ≤ j
  pub met : (i : ℕ) → i ≤ j → AllByRecursion (λ id. v i id ≡ 0 → ⊥) ids
  pub fails : v j bad ≡ 0 → ⊥

pub is_first : (ids : List ℕ) (bad : ℕ) (v : ℕ → ℕ → ℕ) (j : ℕ) → fails_first ids bad v j ≡ true
    → IsFirst ids bad v j
is_first ids bad v j e =
    let met = both_first (is_met ids v j) (in_some (λ i. true) j && not (v j bad == 0)) e in
    let rest = both_second (is_met ids v j) (in_some (λ i. true) j && not (v j bad == 0)) e in
    let begun = some_found (λ i. true) j (both_first (in_some (λ i. true) j) (not (v j bad == 0)) rest) in
    record {
      some = omega (arith, begun.below);
      met = λ i most. others (v i) ids (all_held (λ i. all_other (v i) ids) (suc j) met i (omega (arith, most)));
      fails = other_is (v j bad) (both_second (in_some (λ i. true) j) (not (v j bad == 0)) rest);
    }

pub first_is : (ids : List ℕ) (bad : ℕ) (v : ℕ → ℕ → ℕ) (j : ℕ) → IsFirst ids bad v j
    → fails_first ids bad v j ≡ true
first_is ids bad v j h =
    both_of (is_met ids v j) (in_some (λ i. true) j && not (v j bad == 0))
    (held_all (λ i. all_other (v i) ids) (suc j) (λ i less. all_others (v i) ids (h.met i (omega (arith, less)))))
    (both_of (in_some (λ i. true) j) (not (v j bad == 0))
    (found_some (λ i. true) j 0 (omega (arith, h.some)) refl) (is_other (v j bad) h.fails))

pub record IsLast (bad : ℕ) (v : ℕ → ℕ → ℕ) (k : ℕ) : Type 0 where
  pub before : (j : ℕ) → j < k → v j bad ≡ 0
  pub last : v k bad ≡ 0 → ⊥

pub is_last : (bad : ℕ) (v : ℕ → ℕ → ℕ) (k : ℕ) → fails_last bad v k ≡ true → IsLast bad v k
is_last bad v k e =
    let all = both_first (in_all (λ j. not (not (v j bad == 0))) k) (not (v k bad == 0)) e in
    record {
      before = λ j less. zero_of (v j bad) (all_held (λ j. not (not (v j bad == 0))) k all j less);
      last = other_is (v k bad) (both_second (in_all (λ j. not (not (v j bad == 0))) k) (not (v k bad == 0)) e);
    }

pub last_is : (bad : ℕ) (v : ℕ → ℕ → ℕ) (k : ℕ) → IsLast bad v k → fails_last bad v k ≡ true
last_is bad v k h =
    both_of (in_all (λ j. not (not (v j bad == 0))) k) (not (v k bad == 0))
    (held_all (λ j. not (not (v j bad == 0))) k (λ j less. of_zero (v j bad) (h.before j less)))
    (is_other (v k bad) h.last)
