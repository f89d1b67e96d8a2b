-- How a clause reads, by what the set holds.
use Rattle.std.proofs.Common.{
  ◌≡◌,
  Bool,
  true,
  false,
  not,
  cond,
  ◌&&◌,
  List,
  [],
  ◌∷◌,
  ℤ,
  Option,
  Some,
  None,
  refl,
  ap,
}
use Rattle.std.proofs.Common.{sym, ◌∙◌, ◌⊎◌, inl, inr}
use Rattle.std.specs.List.{list_any}
use Rattle.std.specs.Ordering.{int_eq}
use Rattle.std.proofs.lemmas.Bool.{false≢true, cases_Bool, and_from, cond-true, cond-false, not_from_false}
use Rattle.lrat_check.specs.declared.reading.Reading.{Reading}
use Rattle.lrat_check.specs.declared.reading.Reading.TheVariants as read
use Rattle.lrat_check.specs.Sets.{has, is_false, first_open, other_open, reading_of, reading}
use Rattle.sat_trail.specs.Clauses.{NoneTrue, AllFalse}
use Rattle.sat_trail.proofs.Members.{same_is, same_self, or_cases, or_left, has_head, has_tail, any_has, any_none}
use Rattle.sat_trail.proofs.Members.{none_at, any_from}

-- one literal alone of the clause is open
pub record Alone (set clause : List ℤ) (l : ℤ) : Type 0 where
  pub member : has clause l ≡ true
  pub unfalse : is_false set l ≡ false
  pub untrue : has set l ≡ false
  pub others : (x : ℤ) → has clause x ≡ true → int_eq l x ≡ false → is_false set x ≡ true
  pub none : NoneTrue set clause

-- two different literals of the clause aren't false
pub record Two (set clause : List ℤ) : Type 0 where
  pub one : ℤ
  pub two : ℤ
  pub has_one : has clause one ≡ true
  pub has_two : has clause two ≡ true
  pub differ : int_eq one two ≡ false
  pub one_unfalse : is_false set one ≡ false
  pub two_unfalse : is_false set two ≡ false

some_none : (l : ℤ) → Some l ≡ None → ⊥
some_none l e = cc

none_some : (l : ℤ) → None ≡ Some l → ⊥
none_some l e = cc

some_is : (l m : ℤ) → Some l ≡ Some m → l ≡ m
some_is l m e = cc

first_cond : (b : Bool) (rest : Option ℤ) (m l : ℤ) → cond b rest (Some m) ≡ Some l → ((b ≡ true) × (rest ≡ Some l))
    ⊎ ((b ≡ false) × (m ≡ l))
first_cond true rest m l e = inl (refl, e)
first_cond false rest m l e = inr (refl, some_is m l e)

none_cond : (b : Bool) (rest : Option ℤ) (m : ℤ) → cond b rest (Some m) ≡ None → (b ≡ true) × (rest ≡ None)
none_cond true rest m e = (refl, e)
none_cond false rest m e = absurd (some_none m e)

pub first_is : (set c : List ℤ) (l : ℤ) → first_open set c ≡ Some l → (has c l ≡ true) × (is_false set l ≡ false)
first_is set [] l e = absurd (none_some l e)
first_is set (m ∷ ms) l e = elim (first_cond (is_false set m) (first_open set ms) m l e) [
  | inl h ↦ let r = first_is set ms l h.1 in (has_tail l m ms r.0, r.1)
  | inr h ↦ (or_left (int_eq l m) (has ms l) (same_self l m (sym h.1)), ap (is_false set) (sym h.1) ∙ h.0)
]

none_is : (set c : List ℤ) → first_open set c ≡ None → AllFalse set c
none_is set [] e x h = absurd (false≢true h)
none_is set (m ∷ ms) e x h =
    let r = none_cond (is_false set m) (first_open set ms) m e in elim (or_cases (int_eq x m) (has ms x) h) [
      | inl k ↦ ap (is_false set) (same_is x m k) ∙ r.0
      | inr k ↦ none_is set ms r.1 x k
    ]

none_from : (set c : List ℤ) → AllFalse set c → first_open set c ≡ None
none_from set [] a = refl
none_from set (m ∷ ms) a = ap (λ b. cond b (first_open set ms) (Some m)) (a m (has_head m ms))
    ∙ none_from set ms (λ x h. a x (has_tail x m ms h))

cond_unit : (b : Bool) (m l : ℤ) → cond b read.Open (read.Unit m) ≡ read.Unit l → (m ≡ l) × (b ≡ false)
cond_unit true m l e = absurd (open_unit l e) where
  open_unit : (l : ℤ) → read.Open ≡ read.Unit l → ⊥
  open_unit l e = cc
cond_unit false m l e = (unit_is m l e, refl) where
  unit_is : (m l : ℤ) → read.Unit m ≡ read.Unit l → m ≡ l
  unit_is m l e = cc

cond_open : (b : Bool) (m : ℤ) → cond b read.Open (read.Unit m) ≡ read.Open → b ≡ true
cond_open true m e = refl
cond_open false m e = absurd (unit_open m e) where
  unit_open : (m : ℤ) → read.Unit m ≡ read.Open → ⊥
  unit_open m e = cc

cond_false : (b : Bool) (m : ℤ) → cond b read.Open (read.Unit m) ≡ read.False → ⊥
cond_false true m e = cc
cond_false false m e = cc

unit_parts : (o : Option ℤ) (other : ℤ → Bool) (l : ℤ) → reading_of o other ≡ read.Unit l → (o ≡ Some l)
    × (other l ≡ false)
unit_parts None other l e = absurd (false_unit l e) where
  false_unit : (l : ℤ) → read.False ≡ read.Unit l → ⊥
  false_unit l e = cc
unit_parts (Some m) other l e = let p = cond_unit (other m) m l e in (ap Some p.0, ap other (sym p.0) ∙ p.1)

false_parts : (o : Option ℤ) (other : ℤ → Bool) → reading_of o other ≡ read.False → o ≡ None
false_parts None other e = refl
false_parts (Some m) other e = absurd (cond_false (other m) m e)

open_parts : (o : Option ℤ) (other : ℤ → Bool) → reading_of o other ≡ read.Open → (l : ℤ) × (o ≡ Some l)
    × (other l ≡ true)
open_parts None other e = absurd (false_open e) where
  false_open : read.False ≡ read.Open → ⊥
  false_open e = cc
open_parts (Some m) other e = (m, refl, cond_open (other m) m e)

cond_untrue : (b : Bool) (rest r : Reading) → cond b read.True rest ≡ r → (read.True ≡ r → ⊥) → (b ≡ false) × (rest ≡ r)
cond_untrue true rest r e n = absurd (n e)
cond_untrue false rest r e n = (refl, e)

-- where a reading isn't True, no literal is true
untrue : (set c : List ℤ) (r : Reading) → reading set c ≡ r → (read.True ≡ r → ⊥) → NoneTrue set c
    × (reading_of (first_open set c) (λ l. other_open set l c) ≡ r)
untrue set c r e n =
    let p = cond_untrue (list_any (has set) c) (reading_of (first_open set c) (λ l. other_open set l c)) r e n in
    (λ x h. none_at (has set) c x p.0 h, p.1)

from_untrue : (set c : List ℤ) → NoneTrue set c
    → reading set c ≡ reading_of (first_open set c) (λ l. other_open set l c)
from_untrue set c n =
    ap (λ b. cond b read.True (reading_of (first_open set c) (λ l. other_open set l c))) (any_none (has set) c n)

true_false : read.True ≡ read.False → ⊥
true_false e = cc

true_unit : (l : ℤ) → read.True ≡ read.Unit l → ⊥
true_unit l e = cc

true_open : read.True ≡ read.Open → ⊥
true_open e = cc

pub false_to : (set c : List ℤ) → reading set c ≡ read.False → AllFalse set c × NoneTrue set c
false_to set c e = let p = untrue set c read.False e true_false in
    (none_is set c (false_parts (first_open set c) (λ l. other_open set l c) p.1), p.0)

pub false_from : (set c : List ℤ) → AllFalse set c → NoneTrue set c → reading set c ≡ read.False
false_from set c a n = from_untrue set c n ∙ ap (λ o. reading_of o (λ l. other_open set l c)) (none_from set c a)

others_false : (a b : Bool) → (not a && not b) ≡ false → b ≡ false → a ≡ true
others_false true b h e = refl
others_false false true h e = absurd (false≢true (sym e))
others_false false false h e = absurd (false≢true (sym h))

pub unit_to : (set c : List ℤ) (l : ℤ) → reading set c ≡ read.Unit l → Alone set c l
unit_to set c l e =
    let p = untrue set c (read.Unit l) e (true_unit l) in
    let q = unit_parts (first_open set c) (λ m. other_open set m c) l p.1 in
    let f = first_is set c l q.0 in
    record {
      member = f.0;
      unfalse = f.1;
      untrue = p.0 l f.0;
      others = λ x h k. others_false (is_false set x) (int_eq l x)
          (none_at (λ m. not (is_false set m) && not (int_eq l m)) c x q.1 h) k;
      none = p.0;
    }

first_alone_at : (set : List ℤ) (m l : ℤ) (ms : List ℤ) → (is_false set m ≡ true → first_open set ms ≡ Some l)
    → (is_false set m ≡ false → m ≡ l) → (b : Bool) → is_false set m ≡ b → cond b (first_open set ms) (Some m) ≡ Some l
first_alone_at set m l ms rest here true e = rest e
first_alone_at set m l ms rest here false e = ap Some (here e)

first_alone : (set c : List ℤ) (l : ℤ) → has c l ≡ true → is_false set l ≡ false
    → ((x : ℤ) → has c x ≡ true → int_eq l x ≡ false → is_false set x ≡ true) → first_open set c ≡ Some l
first_alone set [] l h u o = absurd (false≢true h)
first_alone set (m ∷ ms) l h u o = first_alone_at set m l ms
    (λ f. first_alone set ms l (elim (or_cases (int_eq l m) (has ms l) h) [
      | inl e ↦ absurd (false≢true (sym u ∙ ap (is_false set) (same_is l m e) ∙ f))
      | inr e ↦ e
    ]) u (λ x k. o x (has_tail x m ms k)))
    (λ f. elim (cases_Bool (int_eq l m)) [
      | inl e ↦ sym (same_is l m e)
      | inr e ↦ absurd (false≢true (sym f ∙ o m (has_head m ms) e))
    ])
    (is_false set m) refl

no_other_at : (a b : Bool) → (b ≡ false → a ≡ true) → (not a && not b) ≡ false
no_other_at true b h = refl
no_other_at false true h = refl
no_other_at false false h = absurd (false≢true (h refl))

pub unit_from : (set c : List ℤ) (l : ℤ) → Alone set c l → reading set c ≡ read.Unit l
unit_from set c l a =
    from_untrue set c a.none
    ∙ ap (λ o. reading_of o (λ m. other_open set m c)) (first_alone set c l a.member a.unfalse a.others)
    ∙ ap (λ b. cond b read.Open (read.Unit l))
    (any_none (λ m. not (is_false set m) && not (int_eq l m)) c
    (λ x h. no_other_at (is_false set x) (int_eq l x) (a.others x h)))

open_pair : (a b : Bool) → (not a && not b) ≡ true → (a ≡ false) × (b ≡ false)
open_pair true b h = absurd (false≢true h)
open_pair false true h = absurd (false≢true h)
open_pair false false h = (refl, refl)

pub open_to : (set c : List ℤ) → reading set c ≡ read.Open → Two set c × NoneTrue set c
open_to set c e =
    let p = untrue set c read.Open e true_open in
    let q = open_parts (first_open set c) (λ m. other_open set m c) p.1 in
    let f = first_is set c q.0 q.1 in
    let s = any_has (λ m. not (is_false set m) && not (int_eq q.0 m)) c q.2 in
    let t = open_pair (is_false set s.0) (int_eq q.0 s.0) s.2 in (
      record {
        one = q.0;
        two = s.0;
        has_one = f.0;
        has_two = s.1;
        differ = t.1;
        one_unfalse = f.1;
        two_unfalse = t.0;
      },
      p.0,
    )

some_open : (set c : List ℤ) (x : ℤ) → has c x ≡ true → is_false set x ≡ false → first_open set c ≡ None → ⊥
some_open set [] x h f e = false≢true h
some_open set (l ∷ ls) x h f e = elim (cases_Bool (is_false set l)) [
  | inr k ↦ some_none l (sym (cond-false (is_false set l) (first_open set ls) (Some l) k) ∙ e)
  | inl k ↦ elim (or_cases (int_eq x l) (has ls x) h) [
    | inl s ↦ false≢true (sym f ∙ ap (is_false set) (same_is x l s) ∙ k)
    | inr s ↦ some_open set ls x s f (sym (cond-true (is_false set l) (first_open set ls) (Some l) k) ∙ e)
  ]
]

another : (set c : List ℤ) → Two set c → (l : ℤ) → other_open set l c ≡ true
another set c t l = elim (cases_Bool (int_eq l t.one)) [
  | inl s ↦ any_from (λ m. not (is_false set m) && not (int_eq l m)) c t.two t.has_two
      (and_from (not (is_false set t.two)) (not (int_eq l t.two)) (not_from_false (is_false set t.two) t.two_unfalse)
      (not_from_false (int_eq l t.two) (ap (λ z. int_eq z t.two) (same_is l t.one s) ∙ t.differ)))
  | inr s ↦ any_from (λ m. not (is_false set m) && not (int_eq l m)) c t.one t.has_one
      (and_from (not (is_false set t.one)) (not (int_eq l t.one)) (not_from_false (is_false set t.one) t.one_unfalse)
      (not_from_false (int_eq l t.one) s))
]

open_first : (set c : List ℤ) (t : Two set c) (o : Option ℤ) → first_open set c ≡ o
    → reading_of o (λ l. other_open set l c) ≡ read.Open
open_first set c t None e = absurd (some_open set c t.one t.has_one t.one_unfalse e)
open_first set c t (Some l) e = ap (λ b. cond b read.Open (read.Unit l)) (another set c t l)

pub open_from : (set c : List ℤ) → Two set c → NoneTrue set c → reading set c ≡ read.Open
open_from set c t n =
    ap (λ b. cond b read.True (reading_of (first_open set c) (λ l. other_open set l c))) (any_none (has set) c n)
    ∙ open_first set c t (first_open set c) refl
