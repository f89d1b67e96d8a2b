-- How clauses read under sets of literals, with and without a cube's.
use Rattle.std.proofs.Common.{◌≡◌, ℕ, zero, suc, ◌<◌, Bool, true, false, not, cond, ◌||◌, List, [], ◌∷◌, ◌++◌, ℤ, pos, negsuc, neg_ℤ, map, Option}
use Rattle.std.proofs.Common.{Some, None, refl, ap, sym, subst, ◌∙◌, ◌⊎◌, inl, inr, arith}
use Rattle.std.specs.Prelude.{unsigned_abs, filter}
use Rattle.std.specs.List.{list_any}
use Rattle.std.specs.Ordering.{int_eq}
use Rattle.std.proofs.lemmas.Bool.{false≢true, cases_Bool}
use Rattle.cnf_form.specs.Cnf.{IsLiteral, AreLiterals}
use Rattle.lrat_check.specs.declared.reading.Reading.{Reading}
use Rattle.lrat_check.specs.declared.reading.Reading.TheVariants as read
use Rattle.lrat_check.specs.Sets.{has, is_false, negs, first_open, other_open, reading_of, reading}
use Rattle.sat_trail.specs.Trail.{is_assigned}
use Rattle.sat_trail.proofs.Members.{same_is, same_self, neg_neg, or_left, or_right, or_cases, or_both, has_head}
use Rattle.sat_trail.proofs.Members.{has_tail, has_append, any_from, any_has, any_none, none_at, filter_has, filter_from}
use Rattle.sat_trail.proofs.Readings.{Alone, false_to, false_from, unit_to, unit_from}
use Rattle.sat_cubes.specs.Cubes.{NoneTwice, renumbered, reduced, is_satisfied}
use Rattle.sat_cubes.proofs.Renumbers.{many, old, old_apart, old_within, neg_within, old_neg, old_same, new_within}
use Rattle.sat_cubes.proofs.Renumbers.{new_old, apart_assigned, assigned_apart, abs_neg}

pub map_from : (f : ℤ → ℤ) (c : List ℤ) (x : ℤ) → has c x ≡ true → has (map f c) (f x) ≡ true
map_from f [] x h = h
map_from f (l ∷ ls) x h = elim (or_cases (int_eq x l) (has ls x) h) [
  | inl e ↦ or_left (int_eq (f x) (f l)) (has (map f ls) (f x)) (same_self (f x) (f l) (ap f (same_is x l e)))
  | inr e ↦ or_right (int_eq (f x) (f l)) (has (map f ls) (f x)) (map_from f ls x e)
]

pub map_to : (f : ℤ → ℤ) (c : List ℤ) (y : ℤ) → has (map f c) y ≡ true
    → (x : ℤ) × (has c x ≡ true) × (y ≡ f x)
map_to f [] y h = absurd (false≢true h)
map_to f (l ∷ ls) y h = elim (or_cases (int_eq y (f l)) (has (map f ls) y) h) [
  | inl e ↦ (l, has_head l ls, same_is y (f l) e)
  | inr e ↦ let r = map_to f ls y e in (r.0, has_tail r.0 l ls r.1, r.2)
]

pub from_not : (a : Bool) → (a ≡ true → ⊥) → a ≡ false
from_not true h = absurd (h refl)
from_not false h = refl

pub both_ways : (a b : Bool) → (a ≡ true → b ≡ true) → (b ≡ true → a ≡ true) → a ≡ b
both_ways true b f g = sym (f refl)
both_ways false true f g = g refl
both_ways false false f g = refl

neg_moves : (y l : ℤ) → int_eq y (neg_ℤ l) ≡ int_eq (neg_ℤ y) l
neg_moves y l = both_ways (int_eq y (neg_ℤ l)) (int_eq (neg_ℤ y) l)
    (λ e. same_self (neg_ℤ y) l (ap neg_ℤ (same_is y (neg_ℤ l) e) ∙ neg_neg l))
    (λ e. same_self y (neg_ℤ l) (sym (neg_neg y) ∙ ap neg_ℤ (same_is (neg_ℤ y) l e)))

pub has_negs : (c : List ℤ) (y : ℤ) → has (negs c) y ≡ has c (neg_ℤ y)
has_negs [] y = refl
has_negs (l ∷ ls) y =
    ap (λ b. b || has (negs ls) y) (neg_moves y l) ∙ ap (λ b. int_eq (neg_ℤ y) l || b) (has_negs ls y)

never_neg : (l : ℤ) → 0 < unsigned_abs l → l ≡ neg_ℤ l → ⊥
never_neg (pos zero) s e = omega (arith, s)
never_neg (pos (suc n)) s e = cc
never_neg (negsuc n) s e = cc

-- a literal of a cube isn't false under it
pub no_pair : (vars : ℕ) (q : List ℤ) → AreLiterals vars q → NoneTwice q → (y : ℤ) → has q y ≡ true
    → has q (neg_ℤ y) ≡ true → ⊥
no_pair vars [] a n y h k = false≢true h
no_pair vars (l ∷ ls) a n y h k =
    at (or_cases (int_eq y l) (has ls y) h) (or_cases (int_eq (neg_ℤ y) l) (has ls (neg_ℤ y)) k)
    (λ e f. no_pair vars ls a.1 n.1 y e f) where
      none : has ls (neg_ℤ l) ≡ false
      none = (assigned_apart ls l a.0.0 n.0).1

      at : (int_eq y l ≡ true) ⊎ (has ls y ≡ true) → (int_eq (neg_ℤ y) l ≡ true) ⊎ (has ls (neg_ℤ y) ≡ true)
          → (has ls y ≡ true → has ls (neg_ℤ y) ≡ true → ⊥) → ⊥
      at (inl e) (inl f) rest =
          never_neg l a.0.0 (sym (same_is (neg_ℤ y) l f) ∙ ap neg_ℤ (same_is y l e))
      at (inl e) (inr f) rest = false≢true (sym none ∙ ap (λ z. has ls (neg_ℤ z)) (sym (same_is y l e)) ∙ f)
      at (inr e) (inl f) rest =
          false≢true (sym none ∙ ap (has ls) (ap neg_ℤ (sym (same_is (neg_ℤ y) l f)) ∙ neg_neg y) ∙ e)
      at (inr e) (inr f) rest = rest e f

true_to : (set c : List ℤ) (b : Bool) → list_any (has set) c ≡ b → reading set c ≡ read.True → b ≡ true
true_to set c true e r = refl
true_to set c false e r = absurd (never (first_open set c) (λ l. other_open set l c)
    (sym (ap (λ b. cond b read.True (reading_of (first_open set c) (λ l. other_open set l c))) e) ∙ r)) where
      open_true : (b : Bool) (l : ℤ) → cond b read.Open (read.Unit l) ≡ read.True → ⊥
      open_true true l e = cc
      open_true false l e = cc

      never : (o : Option ℤ) (other : ℤ → Bool) → reading_of o other ≡ read.True → ⊥
      never None other e = cc
      never (Some l) other e = open_true (other l) l e

pub true_from : (set c : List ℤ) → list_any (has set) c ≡ true → reading set c ≡ read.True
true_from set c e = ap (λ b. cond b read.True (reading_of (first_open set c) (λ l. other_open set l c))) e

module _ (q : List ℤ) (vars : ℕ) where
  -- a clause of the formula or of its steps, and what is left of it under the cube: beside its old literals it has
  -- only literals that the cube makes false
  pub record Mirrors (clause c : List ℤ) : Type 0 where
    pub lits : AreLiterals (many q vars) c
    pub from : (x : ℤ) → has c x ≡ true → has clause (old q vars x) ≡ true
    pub to : (y : ℤ) → has clause y ≡ true
        → (is_false q y ≡ true) ⊎ ((x : ℤ) × (has c x ≡ true) × (y ≡ old q vars x))

  -- what is true, and what of it is left
  pub record Reflects (set s : List ℤ) : Type 0 where
    pub same : (x : ℤ) → IsLiteral (many q vars) x → has set (old q vars x) ≡ has s x
    pub holds : (y : ℤ) → is_false q y ≡ true → (is_false set y ≡ true) × (has set y ≡ false)

  literal_at : (c : List ℤ) (x : ℤ) → AreLiterals (many q vars) c → has c x ≡ true → IsLiteral (many q vars) x
  literal_at [] x k h = absurd (false≢true h)
  literal_at (l ∷ ls) x k h = elim (or_cases (int_eq x l) (has ls x) h) [
    | inl e ↦ subst (IsLiteral (many q vars)) (sym (same_is x l e)) k.0
    | inr e ↦ literal_at ls x k.1 e
  ]

  same_false : (set s : List ℤ) → Reflects set s → (x : ℤ) → IsLiteral (many q vars) x
      → is_false set (old q vars x) ≡ is_false s x
  same_false set s r x h =
      ap (has set) (sym (old_neg q vars x h)) ∙ r.same (neg_ℤ x) (neg_within q vars x h)

  module _ (clause c set s : List ℤ) (m : Mirrors clause c) (r : Reflects set s) where
    lit : (x : ℤ) → has c x ≡ true → IsLiteral (many q vars) x
    lit x h = literal_at c x m.lits h

    -- what holds of each literal that is left, and of what the cube makes false, holds of the whole
    of_each : (P : ℤ → Type 0) → ((y : ℤ) → is_false q y ≡ true → P y)
        → ((x : ℤ) → has c x ≡ true → P (old q vars x)) → (y : ℤ) → has clause y ≡ true → P y
    of_each P f g y h = at (m.to y h) where
      at : (is_false q y ≡ true) ⊎ ((x : ℤ) × (has c x ≡ true) × (y ≡ old q vars x)) → P y
      at (inl e) = f y e
      at (inr e) = subst P (sym e.2) (g e.0 e.1)

    pub reads_true : reading s c ≡ read.True → reading set clause ≡ read.True
    reads_true e =
        let w = any_has (has s) c (true_to s c (list_any (has s) c) refl e) in
        true_from set clause (any_from (has set) clause (old q vars w.0) (m.from w.0 w.1)
        (r.same w.0 (lit w.0 w.1) ∙ w.2))

    none_true : ((x : ℤ) → has c x ≡ true → has s x ≡ false) → (y : ℤ) → has clause y ≡ true → has set y ≡ false
    none_true n = of_each (λ y. has set y ≡ false) (λ y f. (r.holds y f).1) (λ x h. r.same x (lit x h) ∙ n x h)

    pub reads_false : reading s c ≡ read.False → reading set clause ≡ read.False
    reads_false e =
        let p = false_to s c e in
        false_from set clause
        (of_each (λ y. is_false set y ≡ true) (λ y f. (r.holds y f).0)
        (λ x h. same_false set s r x (lit x h) ∙ p.0 x h)) (none_true p.1)

    other_false : (l : ℤ) → Alone s c l → (x : ℤ) → has c x ≡ true → int_eq (old q vars l) (old q vars x) ≡ false
        → is_false set (old q vars x) ≡ true
    other_false l a x h d =
        same_false set s r x (lit x h) ∙ a.others x h (from_not (int_eq l x)
        (λ e. false≢true (sym d ∙ same_self (old q vars l) (old q vars x) (ap (old q vars) (same_is l x e)))))

    pub reads_unit : (l : ℤ) → reading s c ≡ read.Unit l
        → IsLiteral (many q vars) l × (reading set clause ≡ read.Unit (old q vars l))
    reads_unit l e =
        let a = unit_to s c l e in
        let k = lit l a.member in (
          k,
          unit_from set clause (old q vars l) (record {
            member = m.from l a.member;
            unfalse = same_false set s r l k ∙ a.unfalse;
            untrue = r.same l k ∙ a.untrue;
            others = of_each (λ y. int_eq (old q vars l) y ≡ false → is_false set y ≡ true)
                (λ y f d. (r.holds y f).0) (λ x h d. other_false l a x h d);
            none = none_true a.none;
          }),
        )

  same_test : (x l : ℤ) → IsLiteral (many q vars) x → IsLiteral (many q vars) l
      → int_eq (old q vars x) (old q vars l) ≡ int_eq x l
  same_test x l h k = both_ways (int_eq (old q vars x) (old q vars l)) (int_eq x l)
      (λ e. same_self x l (old_same q vars x l h k (same_is (old q vars x) (old q vars l) e)))
      (λ e. same_self (old q vars x) (old q vars l) (ap (old q vars) (same_is x l e)))

  -- one more literal is true
  pub unit_more : (set s : List ℤ) (l : ℤ) → Reflects set s → IsLiteral (many q vars) l
      → Reflects (set ++ old q vars l ∷ []) (s ++ l ∷ [])
  unit_more set s l r k = record {
    same = λ x h. has_append set (old q vars l ∷ []) (old q vars x)
        ∙ ap (λ b. b || (int_eq (old q vars x) (old q vars l) || false)) (r.same x h)
        ∙ ap (λ b. has s x || (b || false)) (same_test x l h k) ∙ sym (has_append s (l ∷ []) x);
    holds = λ y f. (
      has_append set (old q vars l ∷ []) (neg_ℤ y)
          ∙ or_left (is_false set y) (has (old q vars l ∷ []) (neg_ℤ y)) (r.holds y f).0,
      has_append set (old q vars l ∷ []) y
          ∙ or_both (has set y) (int_eq y (old q vars l) || false) (r.holds y f).1
          (or_both (int_eq y (old q vars l)) false (from_not (int_eq y (old q vars l))
          (λ e. false≢true (sym (old_apart q vars l k).1 ∙ ap (is_false q) (sym (same_is y (old q vars l) e)) ∙ f)))
          refl),
    );
  }

  has_old : (c : List ℤ) (x : ℤ) → AreLiterals (many q vars) c → IsLiteral (many q vars) x
      → has (map (old q vars) c) (old q vars x) ≡ has c x
  has_old [] x a h = refl
  has_old (l ∷ ls) x a h =
      ap (λ b. b || has (map (old q vars) ls) (old q vars x)) (same_test x l h a.0)
      ∙ ap (λ b. int_eq x l || b) (has_old ls x a.1 h)

  -- the complements of a lifted clause, and of what is left of it
  pub begins : (lits : List ℤ) → AreLiterals vars q → NoneTwice q → AreLiterals (many q vars) lits
      → Reflects (negs (map (old q vars) lits ++ negs q)) (negs lits)
  begins lits a n k = record {
    same = λ x h. at x h (old_apart q vars x h);
    holds = λ y f. (falsified y f, untrue y f);
  } where
    clause : List ℤ
    clause = map (old q vars) lits ++ negs q

    parts : (z : ℤ) → has (negs clause) z ≡ (has (map (old q vars) lits) (neg_ℤ z) || has q z)
    parts z = has_negs clause z ∙ has_append (map (old q vars) lits) (negs q) (neg_ℤ z)
        ∙ ap (λ b. has (map (old q vars) lits) (neg_ℤ z) || b) (has_negs q (neg_ℤ z) ∙ ap (has q) (neg_neg z))

    at : (x : ℤ) → IsLiteral (many q vars) x → (has q (old q vars x) ≡ false) × (is_false q (old q vars x) ≡ false)
        → has (negs clause) (old q vars x) ≡ has (negs lits) x
    at x h apart = parts (old q vars x)
        ∙ ap (λ b. has (map (old q vars) lits) (neg_ℤ (old q vars x)) || b) apart.0
        ∙ or_nothing (has (map (old q vars) lits) (neg_ℤ (old q vars x)))
        ∙ ap (has (map (old q vars) lits)) (sym (old_neg q vars x h))
        ∙ has_old lits (neg_ℤ x) k (neg_within q vars x h) ∙ sym (has_negs lits x) where
          or_nothing : (b : Bool) → (b || false) ≡ b
          or_nothing true = refl
          or_nothing false = refl

    falsified : (y : ℤ) → is_false q y ≡ true → has (negs clause) (neg_ℤ y) ≡ true
    falsified y f = parts (neg_ℤ y) ∙ or_right (has (map (old q vars) lits) (neg_ℤ (neg_ℤ y))) (has q (neg_ℤ y)) f

    not_old : (y : ℤ) → is_false q y ≡ true → has (map (old q vars) lits) (neg_ℤ y) ≡ true → ⊥
    not_old y f t =
        let w = map_to (old q vars) lits (neg_ℤ y) t in
        false≢true (sym (old_apart q vars w.0 (literal_at lits w.0 k w.1)).0 ∙ ap (has q) (sym w.2) ∙ f)

    untrue : (y : ℤ) → is_false q y ≡ true → has (negs clause) y ≡ false
    untrue y f = parts y ∙ or_both (has (map (old q vars) lits) (neg_ℤ y)) (has q y)
        (from_not (has (map (old q vars) lits) (neg_ℤ y)) (not_old y f))
        (from_not (has q y) (λ t. no_pair vars q a n y t f))

  -- a lifted clause
  pub lifted_mirrors : (lits : List ℤ) → AreLiterals (many q vars) lits
      → Mirrors (map (old q vars) lits ++ negs q) lits
  lifted_mirrors lits k = record {
    lits = k;
    from = λ x h. has_append (map (old q vars) lits) (negs q) (old q vars x)
        ∙ or_left (has (map (old q vars) lits) (old q vars x)) (has (negs q) (old q vars x))
        (map_from (old q vars) lits x h);
    to = λ y h. at y (or_cases (has (map (old q vars) lits) y) (has (negs q) y)
        (sym (has_append (map (old q vars) lits) (negs q) y) ∙ h));
  } where
    at : (y : ℤ) → (has (map (old q vars) lits) y ≡ true) ⊎ (has (negs q) y ≡ true)
        → (is_false q y ≡ true) ⊎ ((x : ℤ) × (has lits x ≡ true) × (y ≡ old q vars x))
    at y (inl e) = inr (map_to (old q vars) lits y e)
    at y (inr e) = inl (sym (has_negs q y) ∙ e)

  all_literals : (c : List ℤ) → ((x : ℤ) → has c x ≡ true → IsLiteral (many q vars) x)
      → AreLiterals (many q vars) c
  all_literals [] h = tt
  all_literals (l ∷ ls) h = (h l (has_head l ls), all_literals ls (λ x k. h x (has_tail x l ls k)))

  pub literal_in : (c : List ℤ) (x : ℤ) → AreLiterals vars c → has c x ≡ true → IsLiteral vars x
  literal_in [] x k h = absurd (false≢true h)
  literal_in (l ∷ ls) x k h = elim (or_cases (int_eq x l) (has ls x) h) [
    | inl e ↦ subst (IsLiteral vars) (sym (same_is x l e)) k.0
    | inr e ↦ literal_in ls x k.1 e
  ]

  module _ (clause : List ℤ) (a : AreLiterals vars clause) (o : is_satisfied q clause ≡ false) where
    -- a literal that is left is open
    pub left_open : (y : ℤ) → has (reduced q clause) y ≡ true
        → (has clause y ≡ true) × IsLiteral vars y × (is_assigned q (unsigned_abs y) ≡ false)
    left_open y h =
        let p = filter_has (λ l. not (is_false q l)) clause y h in
        let i = literal_in clause y a p.0 in
        (p.0, i, apart_assigned q y i.0 (none_at (has q) clause y o p.0) (untrue (is_false q y) p.1)) where
          untrue : (b : Bool) → not b ≡ true → b ≡ false
          untrue true e = absurd (false≢true e)
          untrue false e = refl

    new_at : (x : ℤ) → has (map (renumbered q) (reduced q clause)) x ≡ true
        → (y : ℤ) × (has (reduced q clause) y ≡ true) × (x ≡ renumbered q y)
    new_at x h = map_to (renumbered q) (reduced q clause) x h

    pub left_literals : AreLiterals (many q vars) (map (renumbered q) (reduced q clause))
    left_literals = all_literals (map (renumbered q) (reduced q clause)) (λ x h. at x (new_at x h)) where
      at : (x : ℤ) → (y : ℤ) × (has (reduced q clause) y ≡ true) × (x ≡ renumbered q y) → IsLiteral (many q vars) x
      at x w =
          let p = left_open w.0 w.1 in
          subst (IsLiteral (many q vars)) (sym w.2) (new_within q vars w.0 p.1 p.2)

    -- a clause of the formula
    pub left_mirrors : Mirrors clause (map (renumbered q) (reduced q clause))
    left_mirrors = record {
      lits = left_literals;
      from = λ x h. from x (new_at x h);
      to = λ y h. to y h (cases_Bool (is_false q y));
    } where
      from : (x : ℤ) → (y : ℤ) × (has (reduced q clause) y ≡ true) × (x ≡ renumbered q y)
          → has clause (old q vars x) ≡ true
      from x w =
          let p = left_open w.0 w.1 in
          ap (λ z. has clause (old q vars z)) w.2 ∙ ap (has clause) (new_old q vars w.0 p.1 p.2) ∙ p.0

      to : (y : ℤ) → has clause y ≡ true → (is_false q y ≡ true) ⊎ (is_false q y ≡ false)
          → (is_false q y ≡ true)
          ⊎ ((x : ℤ) × (has (map (renumbered q) (reduced q clause)) x ≡ true) × (y ≡ old q vars x))
      to y h (inl e) = inl e
      to y h (inr e) =
          let t = filter_from (λ l. not (is_false q l)) clause y h (ap not e) in
          let p = left_open y t in
          inr (renumbered q y, map_from (renumbered q) (reduced q clause) y t, sym (new_old q vars y p.1 p.2))
