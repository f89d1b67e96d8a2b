-- What follows for guessed steps from what was looked at.
use Rattle.std.proofs.Common.{◌≡◌, ℕ, zero, suc, ◌+◌, ◌^◌, ◌<◌, ◌≤◌, Bool, true, false, not, List, [], ◌∷◌, ◌++◌, ℤ}
use Rattle.std.proofs.Common.{pos, negsuc, neg_ℤ, length, length-append, if◌then◌else◌, ap, sym, subst, ◌∙◌}
use Rattle.std.proofs.Common.{inl, inr, arith}
use Rattle.std.proofs.lemmas.Bool.{false≢true, cases_Bool}
use Rattle.std.specs.Prelude.{unsigned_abs}
use Rattle.std.specs.List.{list_any}
use Rattle.std.specs.Ordering.{int_eq}
use Rattle.lrat_check.specs.declared.step.Step.{Step}
use Rattle.lrat_check.specs.declared.step.Step.TheVariants.{Add, Delete}
use Rattle.lrat_check.specs.Sets.{has, is_false, same_set}
use Rattle.lrat_check.specs.Steps.{Refutes, AreSteps}
use Rattle.lrat_check.specs.Resolved.{consistent, derived, derived_from}
use Rattle.lrat_check.specs.Texts.{AreShort}
use Rattle.sat_trail.proofs.Members.{same_is, or_cases}
use Rattle.sat_learn.proofs.News.{all_from}
use Rattle.sat_search.specs.Added.{AreAdded}
use Rattle.sat_search.specs.Found.{EndsEmpty, nonempty}
use Rattle.sat_search.specs.Judging.{Rising, AreFit}
use Rattle.sat_search.specs.Turns.{IsRefuted}
use Rattle.sat_search.proofs.Added as added
use Rattle.sat_search.proofs.Literals.{abs_neg}
use Rattle.sat_search.proofs.Short.{literals_short}

-- ---- where variables rise, none comes twice

above : (last : ℕ) (c : List ℤ) (x : ℤ) → Rising last c → has c x ≡ true → last < unsigned_abs x
above last [] x r h = absurd (false≢true h)
above last (l ∷ ls) x r h = elim (or_cases (int_eq x l) (has ls x) h) [
  | inl e ↦ subst (λ y. last < unsigned_abs y) (sym (same_is x l e)) r.0
  | inr e ↦ let k = above (unsigned_abs l) ls x r.1 e in omega (arith, k, r.0)
]

same_var : (last : ℕ) (c : List ℤ) (x y : ℤ) → Rising last c → has c x ≡ true → has c y ≡ true
    → unsigned_abs x ≡ unsigned_abs y → x ≡ y
same_var last [] x y r h k e = absurd (false≢true h)
same_var last (l ∷ ls) x y r h k e = elim (or_cases (int_eq x l) (has ls x) h) [
  | inl f ↦ elim (or_cases (int_eq y l) (has ls y) k) [
    | inl g ↦ same_is x l f ∙ sym (same_is y l g)
    | inr g ↦
        let b = above (unsigned_abs l) ls y r.1 g in
        let s : unsigned_abs x ≡ unsigned_abs l = ap unsigned_abs (same_is x l f) in
        absurd (omega (arith, b, s, e))
  ]
  | inr f ↦ elim (or_cases (int_eq y l) (has ls y) k) [
    | inl g ↦
        let b = above (unsigned_abs l) ls x r.1 f in
        let s : unsigned_abs y ≡ unsigned_abs l = ap unsigned_abs (same_is y l g) in
        absurd (omega (arith, b, s, e))
    | inr g ↦ same_var (unsigned_abs l) ls x y r.1 f g e
  ]
]

not_own : (x : ℤ) → 0 < unsigned_abs x → x ≡ neg_ℤ x → ⊥
not_own (pos zero) h e = omega (arith, h)
not_own (pos (suc n)) h e = let f : ⊥ = cc in f
not_own (negsuc n) h e = let f : ⊥ = cc in f

pub rising_consistent : (c : List ℤ) → Rising 0 c → consistent c ≡ true
rising_consistent c r = all_from (λ l. not (is_false c l)) c (λ x h. elim (cases_Bool (is_false c x)) [
  | inl k ↦ absurd (not_own x (above 0 c x r h) (same_var 0 c x (neg_ℤ x) r h k (sym (abs_neg x))))
  | inr k ↦ ap not k
])

-- ---- steps that are fit

pub fit_added : (vars : ℕ) (steps : List Step) → AreFit vars steps → AreAdded vars steps
fit_added vars [] f = tt
fit_added vars (Add id lits hints ∷ steps) f =
    (f.0.1, rising_consistent lits f.0.2, fit_added vars steps f.1)
fit_added vars (Delete id ids ∷ steps) f = absurd f.0

pub fit_steps : (vars : ℕ) (steps : List Step) → vars < 2 ^ 63 → AreFit vars steps → AreSteps steps
fit_steps vars steps v f = added.are_steps vars steps v (fit_added vars steps f)

fit_short : (vars : ℕ) (steps : List Step) → AreFit vars steps → vars < 10 ^ 18 → AreShort steps
fit_short vars [] f v = tt
fit_short vars (Add id lits hints ∷ steps) f v =
    ((f.0.0, literals_short vars lits v f.0.1, f.0.3), fit_short vars steps f.1 v)
fit_short vars (Delete id ids ∷ steps) f v = absurd f.0

-- ---- fewer clauses are derived than there are steps

end_step : (b : Bool) → length (nonempty (if b then [] else [] ∷ [])) ≤ 0
end_step true = omega arith
end_step false = omega arith

few_step : (b : Bool) (lits : List ℤ) (left right : List (List ℤ)) (n : ℕ) → length (nonempty left) ≤ n
    → length (nonempty right) ≤ n → length (nonempty (if b then left else lits ∷ right)) ≤ suc n
few_step true lits left right n k w = omega (arith, k)
few_step false [] left right n k w = omega (arith, w)
few_step false (l ∷ ls) left right n k w = omega (arith, w)

few_more : (before : List Step) (id : ℕ) (hints : List ℤ) (seen : List (List ℤ))
    → length (nonempty (derived_from seen (before ++ Add id [] hints ∷ []))) ≤ length before
few_more [] id hints seen = end_step (list_any (same_set []) seen)
few_more (Add i lits hs ∷ before) id hints seen =
    few_step (list_any (same_set lits) seen) lits (derived_from seen (before ++ Add id [] hints ∷ []))
    (derived_from (seen ++ lits ∷ []) (before ++ Add id [] hints ∷ [])) (length before)
    (few_more before id hints seen) (few_more before id hints (seen ++ lits ∷ []))
few_more (Delete i ids ∷ before) id hints seen = let k = few_more before id hints seen in omega (arith, k)

module _ (budget vars : ℕ) (formula : List (List ℤ)) (steps : List Step) (id : ℕ) where
  fewer : length steps ≤ budget → EndsEmpty steps id → length (nonempty (derived formula steps)) < budget
  fewer few e =
      let P : List Step → Type 0 = λ s. length (nonempty (derived formula s)) ≤ length e.0 in
      let k = subst P (sym e.2) (few_more e.0 id e.1 formula) in
      let long = ap length e.2 in
      let parts = length-append e.0 (Add id [] e.1 ∷ []) in
      omega (arith, k, long, parts, few)

  pub is_refuted : vars < 2 ^ 63 → length steps ≤ budget → AreFit vars steps → Refutes formula steps id
      → EndsEmpty steps id → IsRefuted budget formula vars steps
  is_refuted v few f r e = record {
    id = id;
    refutes = r;
    last = e;
    fewer = fewer few e;
    added = fit_added vars steps f;
    are_steps = fit_steps vars steps v f;
    short = fit_short vars steps f;
  }
