-- Lists of names, values and lines.
use Rattle.std.proofs.Common.{◌≡◌, ℕ, zero, suc, ◌+◌, ◌^◌, ◌<◌, ◌≤◌, true, false, ◌==◌, List, [], ◌∷◌, ◌++◌, length}
use Rattle.std.proofs.Common.{take, drop, refl, ap, sym, subst, ◌∙◌, inl, inr, arith}
use Rattle.std.proofs.lemmas.Bool.{cases_Bool, false≢true}
use Rattle.std.proofs.lemmas.Bool.Decides.{nat_tests}
use Rattle.std.proofs.lemmas.List.{drop_at, length-take-le}
use Rattle.std.specs.List.{AllByRecursion}
use Rattle.fv_text.specs.declared.trace.Trace.{Trace}
use Rattle.fv_text.specs.declared.trace.TraceName.{TraceName}
use Rattle.vcd_text.specs.Reading.{IsAt, IsReadable}
use Rattle.vcd_text.specs.Reached.{AreFirst}
use Rattle.vcd_dump.specs.Vcd.{AreValues, value_lines}
use Rattle.vcd_text.proofs.Values.{at_same}

pub all_append : {X : Type 0} (P : X → Type 0) (xs ys : List X) → AllByRecursion P xs → AllByRecursion P ys
    → AllByRecursion P (xs ++ ys)
all_append P [] ys a b = b
all_append P (x ∷ xs) ys a b = (a.0, all_append P xs ys a.1 b)

pub all_middle : {X : Type 0} (P : X → Type 0) (xs : List X) (y : X) (ys : List X) → AllByRecursion P (xs ++ y ∷ ys)
    → P y
all_middle P [] y ys a = a.0
all_middle P (x ∷ xs) y ys a = all_middle P xs y ys a.1

pub lines_same : (x y : List ℕ) (xs ys : List (List ℕ)) → x ∷ xs ≡ y ∷ ys → (x ≡ y) × (xs ≡ ys)
lines_same x y xs ys e = (cc, cc)

pub lines_are : (x y : List ℕ) (xs ys : List (List ℕ)) → x ≡ y → xs ≡ ys → x ∷ xs ≡ y ∷ ys
lines_are x y xs ys e f = ap (λ z. z ∷ xs) e ∙ ap (λ z. y ∷ z) f

pub no_lines : (xs : List (List ℕ)) (y : List ℕ) (ys : List (List ℕ)) → [] ≡ xs ++ y ∷ ys → ⊥
no_lines [] y ys e = cc
no_lines (x ∷ xs) y ys e = cc

pub one_line : (x : List ℕ) (xs : List (List ℕ)) → x ∷ xs ≡ [] → ⊥
one_line x xs e = cc

pub eq_true : (x y : ℕ) → x ≡ y → (x == y) ≡ true
eq_true x y e = grind (arith, nat_tests)

pub eq_same : (x y : ℕ) → (x == y) ≡ true → x ≡ y
eq_same x y e = grind (arith, nat_tests)

pub eq_false : (x y : ℕ) → (x ≡ y → ⊥) → (x == y) ≡ false
eq_false x y h = elim (cases_Bool (x == y)) [
  | inl t ↦ absurd (h (eq_same x y t))
  | inr f ↦ f
]

pub differs : (x y : ℕ) → (x == y) ≡ false → x ≡ y → ⊥
differs x y f e = false≢true (sym f ∙ eq_true x y e)

-- which name has an index
pub at_within : (ns : List TraceName) (i : ℕ) (n : TraceName) → IsAt ns i n → i < length ns
at_within [] i n a = absurd (none_at i n a) where
  none_at : (i : ℕ) (n : TraceName) → IsAt [] i n → ⊥
  none_at zero n a = cc
  none_at (suc i) n a = cc
at_within (m ∷ ns) zero n a = omega arith
at_within (m ∷ ns) (suc i) n a = let h : i < length ns = at_within ns i n a in omega (arith, h)

pub at_some : (ns : List TraceName) (i : ℕ) → i < length ns → (n : TraceName) × IsAt ns i n
at_some [] i l = absurd (omega (arith, l))
at_some (m ∷ ns) zero l = (m, refl)
at_some (m ∷ ns) (suc i) l = at_some ns i (omega (arith, l))

pub at_drop : (ns : List TraceName) (i : ℕ) (n : TraceName) → IsAt ns i n → drop i ns ≡ n ∷ drop (suc i) ns
at_drop [] zero n a = absurd (let h = at_within [] 0 n a in omega (arith, h))
at_drop [] (suc i) n a = absurd (let h = at_within [] (suc i) n a in omega (arith, h))
at_drop (m ∷ ns) zero n a = let e : m ≡ n = at_same (m ∷ ns) 0 0 m n refl refl a in ap (λ x. x ∷ ns) e
at_drop (m ∷ ns) (suc i) n a = at_drop ns i n a

pub at_behind : (k : ℕ) (ns : List TraceName) (i : ℕ) (n : TraceName) → IsAt (drop k ns) i n → IsAt ns (k + i) n
at_behind zero ns i n a = subst (λ j. IsAt ns j n) (let e : i ≡ 0 + i = omega arith in e) a
at_behind (suc k) [] i n a = absurd (let h = at_within [] i n a in omega (arith, h))
at_behind (suc k) (m ∷ ns) i n a =
    subst (λ j. IsAt (m ∷ ns) j n) (let e : suc (k + i) ≡ suc k + i = omega arith in e) (at_behind k ns i n a)

-- values of some of the names
pub values_behind : (k : ℕ) (ns : List TraceName) (vs : List ℕ) → AreValues ns vs → AreValues (drop k ns) (drop k vs)
values_behind zero ns vs a = a
values_behind (suc k) [] [] a = tt
values_behind (suc k) [] (v ∷ vs) a = absurd a
values_behind (suc k) (n ∷ ns) [] a = absurd a
values_behind (suc k) (n ∷ ns) (v ∷ vs) a = values_behind k ns vs a.1

pub values_rest : (k : ℕ) (ns : List TraceName) (vs os : List ℕ) → k ≤ length vs → AreValues ns (take k vs ++ os)
    → AreValues (drop k ns) os
values_rest k ns vs os l a = subst (AreValues (drop k ns)) (drop_at (take k vs) os k (length-take-le k vs l))
    (values_behind k ns (take k vs ++ os) a)

pub values_none : (ns : List TraceName) (os : List ℕ) → ns ≡ [] → AreValues ns os → os ≡ []
values_none [] [] e a = refl
values_none [] (o ∷ os) e a = absurd a
values_none (n ∷ ns) os e a =
    absurd (let f : length (n ∷ ns) ≡ length {A = TraceName} [] = ap length e in omega (arith, f))

pub value_fits : (ns : List TraceName) (vs : List ℕ) (w : ℕ) (os : List ℕ) (n : TraceName)
    → AreValues ns (vs ++ w ∷ os) → IsAt ns (length vs) n → w < 2 ^ n.width
value_fits [] [] w os n a b = absurd a
value_fits [] (v ∷ vs) w os n a b = absurd a
value_fits (m ∷ ns) [] w os n a b =
    let e : m ≡ n = at_same (m ∷ ns) 0 0 m n refl refl b in subst (λ x. w < 2 ^ x.width) e a.0
value_fits (m ∷ ns) (v ∷ vs) w os n a b = value_fits ns vs w os n a.1 b

-- values of the first names
pub first_none : (ns : List TraceName) → AreFirst ns []
first_none [] = tt
first_none (n ∷ ns) = tt

pub first_push : (ns : List TraceName) (vs : List ℕ) (v : ℕ) (n : TraceName) → AreFirst ns vs → IsAt ns (length vs) n
    → v < 2 ^ n.width → AreFirst ns (vs ++ v ∷ [])
first_push [] [] v n a b l = absurd (let h = at_within [] 0 n b in omega (arith, h))
first_push [] (w ∷ vs) v n a b l = absurd a
first_push (m ∷ ns) [] v n a b l =
    let e : n ≡ m = sym (at_same (m ∷ ns) 0 0 m n refl refl b) in (subst (λ x. v < 2 ^ x.width) e l, first_none ns)
first_push (m ∷ ns) (w ∷ vs) v n a b l = (a.0, first_push ns vs v n a.1 b l)

pub first_all : (ns : List TraceName) (vs : List ℕ) → AreFirst ns vs → length vs ≡ length ns → AreValues ns vs
first_all [] [] a e = tt
first_all [] (v ∷ vs) a e = absurd a
first_all (n ∷ ns) [] a e = absurd (omega (arith, e))
first_all (n ∷ ns) (v ∷ vs) a e = (a.0, first_all ns vs a.1 (omega (arith, e)))

pub first_within : (ns : List TraceName) (vs : List ℕ) → AreFirst ns vs → length vs ≤ length ns
first_within [] [] a = omega arith
first_within [] (v ∷ vs) a = absurd a
first_within (n ∷ ns) [] a = omega arith
first_within (n ∷ ns) (v ∷ vs) a = let h : length vs ≤ length ns = first_within ns vs a.1 in omega (arith, h)

pub no_value_lines : (i : ℕ) (ns : List TraceName) → value_lines i ns [] ≡ []
no_value_lines i [] = refl
no_value_lines i (n ∷ ns) = refl

-- the values of a cycle
pub cycle_values : (t : Trace) → IsReadable t
    → (ns : List TraceName) (front : List (List ℕ)) (c : List ℕ) (later : List (List ℕ)) → t.names ≡ ns
    → t.cycles ≡ front ++ c ∷ later → AreValues ns c
cycle_values t r ns front c later e f =
    let a : AllByRecursion (AreValues ns) t.cycles = subst
    (λ x. AllByRecursion (AreValues x) t.cycles) e r.trace.values in
    all_middle (AreValues ns) front c later (subst (AllByRecursion (AreValues ns)) f a)
