-- Steps that refute what a cube leaves, lifted to the formula, lead to the clause of the cube's complements.
use Rattle.std.proofs.Common.{◌≡◌, ℕ, zero, suc, ◌+◌, ◌<◌, ◌≤◌, ◌^◌, Bool, true, false, cond, eqb, List, [], ◌∷◌, ◌++◌}
use Rattle.std.proofs.Common.{ℤ, pos, map, length, Option, Some, None, Result, Ok, Err, refl, ap, sym, subst, ◌∙◌, arith}
use Rattle.std.proofs.Common.{inl, inr, length-append}
use Rattle.std.specs.Prelude.{unsigned_abs, slice_get}
use Rattle.std.specs.List.{AllByRecursion}
use Rattle.std.proofs.lemmas.Bool.{false≢true, cases_eq}
use Rattle.cnf_form.specs.Cnf.{AreLiterals}
use Rattle.lrat_check.specs.declared.step.Step.{Step}
use Rattle.lrat_check.specs.declared.step.Step.TheVariants.{Add, Delete}
use Rattle.lrat_check.specs.declared.step.Refuted.{Refuted}
use Rattle.lrat_check.specs.declared.step.StepFault.{StepFault}
use Rattle.lrat_check.specs.declared.step.StepFault.TheVariants as fault
use Rattle.lrat_check.specs.Sets.{negs}
use Rattle.lrat_check.specs.Steps.{Held, add_fault, deleted, verdict, is_empty, with_clause, without_clause}
use Rattle.lrat_check.proofs.Sound.{verdict_adds, verdict_deletes}
use Rattle.lrat_check.proofs.Stores.{deleted_one, ok_err}
use Rattle.sat_cubes.specs.Cubes.{NoneTwice}
use Rattle.sat_cubes.specs.Lifting.{Ids, with_id, lifted, lifted_hints}
use Rattle.sat_cubes.proofs.Renumbers.{many, old}
use Rattle.sat_search.specs.Added.{AreAdded}
use Rattle.sat_cubes.proofs.Mirrors.{Mirrors, lifted_mirrors}
use Rattle.sat_cubes.proofs.Walks.{Carried, Carries, add_lifts, none_some, some_none}

eqb_self : (a b : ℕ) → a ≡ b → eqb a b ≡ true
eqb_self a b e = grind arith

eqb_apart : (a b : ℕ) → (a ≡ b → ⊥) → eqb a b ≡ false
eqb_apart a b n = grind arith

pub with_at : (held : Held) (id : ℕ) (lits : List ℤ) → with_clause held id lits id ≡ Some lits
with_at held id lits = ap (λ b. cond b (Some lits) (held id)) (eqb_self id id refl)

pub with_other : (held : Held) (id i : ℕ) (lits : List ℤ) → (id ≡ i → ⊥) → with_clause held id lits i ≡ held i
with_other held id i lits n = ap (λ b. cond b (Some lits) (held i)) (eqb_apart id i n)

some_is : {X : Type 0} (x y : X) → Some x ≡ Some y → x ≡ y
some_is x y e = cc

ok_is : {X : Type 0} (x y : X) → (let r : Result X StepFault = Ok x in r) ≡ Ok y → x ≡ y
ok_is x y e = cc

-- ---- a step of the refutation

verdict_fault : (held : Held) (top id : ℕ) (lits hints : List ℤ) (steps : List Step) (f : StepFault)
    → add_fault held top id lits hints ≡ Some f → verdict held top (Add id lits hints ∷ steps) ≡ Err f
verdict_fault held top id lits hints steps f e = grind (arith, e)

delete_fault : (held : Held) (top id : ℕ) (ids : List ℕ) (steps : List Step) (f : StepFault)
    → deleted held id ids ≡ Err f → verdict held top (Delete id ids ∷ steps) ≡ Err f
delete_fault held top id ids steps f e = grind (arith, e)

none_ok : (r : Refuted) → Err fault.NoEmpty ≡ Ok r → ⊥
none_ok r e = cc

accepted_at : (held : Held) (top id : ℕ) (lits hints : List ℤ) (steps : List Step) (r : Refuted) (o : Option StepFault)
    → add_fault held top id lits hints ≡ o → verdict held top (Add id lits hints ∷ steps) ≡ Ok r
    → add_fault held top id lits hints ≡ None
accepted_at held top id lits hints steps r None e w = e
accepted_at held top id lits hints steps r (Some f) e w =
    absurd (ok_err f r (sym (verdict_fault held top id lits hints steps f e) ∙ w))

without_sub : (held : Held) (id i : ℕ) (c : List ℤ) (b : Bool) → cond b None (held i) ≡ Some c → held i ≡ Some c
without_sub held id i c true e = absurd (none_some c e)
without_sub held id i c false e = e

-- what is held after a deletion was held before
deleted_sub : (id : ℕ) (now : Held) (ids : List ℕ) (held : Held) → deleted held id ids ≡ Ok now → (i : ℕ) (c : List ℤ)
    → now i ≡ Some c → held i ≡ Some c
deleted_sub id now [] held e i c h = subst (λ (x : Held). x i ≡ Some c) (sym (ok_is held now e)) h
deleted_sub id now (g ∷ ids) held e i c h =
    without_sub held g i c (eqb g i) (deleted_sub id now ids (without_clause held g)
    (deleted_one held id g ids now (held g) refl e) i c h)

module _ (q : List ℤ) (vars : ℕ) (a : AreLiterals vars q) (n : NoneTwice q) where
  abbrev block : List ℤ
  block = negs q

  -- the clause of a step
  abbrev clause : List ℤ → List ℤ
  clause lits = map (old q vars) lits ++ block

  -- where a clause comes in on both sides, each one is still carried over
  carried_other : (ids : Ids) (large : Held) (top id i : ℕ) (lits c : List ℤ) → (id ≡ i → ⊥)
      → Carried q vars ids large top i c
      → Carried q vars (with_id ids id (top + 1)) (with_clause large (top + 1) (clause lits)) (top + 1) i c
  carried_other ids large top id i lits c d k =
      let up = k.up in
      record {
        to = k.to;
        is = ap (λ b. cond b (Some (top + 1)) (ids i)) (eqb_apart id i d) ∙ k.is;
        some = k.some;
        up = omega (arith, up);
        clause = k.clause;
        held = with_other large (top + 1) k.to (clause lits) (λ e. omega (arith, up, e)) ∙ k.held;
        mirrors = k.mirrors;
      }

  carried_same : (ids : Ids) (large : Held) (top id i : ℕ) (lits c : List ℤ) → AreLiterals (many q vars) lits
      → id ≡ i → lits ≡ c
      → Carried q vars (with_id ids id (top + 1)) (with_clause large (top + 1) (clause lits)) (top + 1) i c
  carried_same ids large top id i lits c k e f = record {
    to = top + 1;
    is = ap (λ b. cond b (Some (top + 1)) (ids i)) (eqb_self id i e);
    some = omega arith;
    up = omega arith;
    clause = clause lits;
    held = with_at large (top + 1) (clause lits);
    mirrors = subst (Mirrors q vars (clause lits)) f (lifted_mirrors q vars lits k);
  }

  carries_more : (ids : Ids) (small large : Held) (top id : ℕ) (lits : List ℤ) → AreLiterals (many q vars) lits
      → Carries q vars ids small large top
      → Carries q vars (with_id ids id (top + 1)) (with_clause small id lits)
      (with_clause large (top + 1) (clause lits)) (top + 1)
  carries_more ids small large top id lits k carry i c e = elim (cases_eq id i) [
    | inl s ↦ carried_same ids large top id i lits c k s
        (some_is lits c (sym (ap (λ b. cond b (Some lits) (small i)) (eqb_self id i s)) ∙ e))
    | inr d ↦ carried_other ids large top id i lits c d
        (carry i c (sym (with_other small id i lits d) ∙ e))
  ]

  -- the lifted steps: those before the last one are valid, and so is the last one, whose clause is the block
  pub record Lifted (large : Held) (top : ℕ) (steps : List Step) : Type 0 where
    pub before : List Step
    pub hints : List ℤ
    pub last : Held
    pub end : ℕ
    pub is : steps ≡ before ++ Add (end + 1) block hints ∷ []
    pub leads : (more : List Step) → verdict large top (before ++ more) ≡ verdict last end more
    pub accepted : add_fault last end (end + 1) block hints ≡ None
    pub tops : end + 1 ≡ top + length steps
    pub keeps : (i : ℕ) → i ≤ top → last i ≡ large i
    pub up : top ≤ end

  lifted_last : (large : Held) (top : ℕ) (hints : List ℤ)
      → add_fault large top (top + 1) (clause []) hints ≡ None
      → Lifted large top (Add (top + 1) (clause []) hints ∷ [])
  lifted_last large top hints e = record {
    before = [];
    hints = hints;
    last = large;
    end = top;
    is = refl;
    leads = λ more. refl;
    accepted = e;
    tops = omega arith;
    keeps = λ i h. refl;
    up = omega arith;
  }

  nonempty : (l : ℤ) (ls : List ℤ) → is_empty (clause (l ∷ ls)) ≡ false
  nonempty l ls = refl

  lifted_more : (large : Held) (top : ℕ) (l : ℤ) (ls hints : List ℤ) (steps : List Step)
      → add_fault large top (top + 1) (clause (l ∷ ls)) hints ≡ None
      → Lifted (with_clause large (top + 1) (clause (l ∷ ls))) (top + 1) steps
      → Lifted large top (Add (top + 1) (clause (l ∷ ls)) hints ∷ steps)
  lifted_more large top l ls hints steps e f =
      let step : Step = Add (top + 1) (clause (l ∷ ls)) hints in
      let tops = f.tops in
      let up = f.up in
      record {
        before = step ∷ f.before;
        hints = f.hints;
        last = f.last;
        end = f.end;
        is = ap (λ s. step ∷ s) f.is;
        leads = λ more. verdict_adds large top (top + 1) (clause (l ∷ ls)) hints (f.before ++ more) e (nonempty l ls)
            ∙ f.leads more;
        accepted = f.accepted;
        tops = omega (arith, tops);
        keeps = λ i h. f.keeps i (omega (arith, h))
            ∙ with_other large (top + 1) i (clause (l ∷ ls)) (λ s. omega (arith, h, s));
        up = omega (arith, up);
      }

  abbrev all : Ids → ℕ → List Step → List Step
  all ids top steps = lifted (old q vars) block ids top steps

  add_lifted : (ids : Ids) (small large : Held) (low top id : ℕ) (lits hints : List ℤ) (steps : List Step)
      (r : Refuted) → AreLiterals (many q vars) lits → Carries q vars ids small large top
      → add_fault small low id lits hints ≡ None → verdict small low (Add id lits hints ∷ steps) ≡ Ok r
      → ((ids : Ids) (small large : Held) (low top : ℕ) → Carries q vars ids small large top
      → verdict small low steps ≡ Ok r → Lifted large top (all ids top steps))
      → Lifted large top (all ids top (Add id lits hints ∷ steps))
  add_lifted ids small large low top id [] hints steps r k carry e w rest =
      lifted_last large top (lifted_hints ids hints)
      (add_lifts q vars ids small large low top id [] hints a n k carry e)
  add_lifted ids small large low top id (l ∷ ls) hints steps r k carry e w rest =
      lifted_more large top l ls (lifted_hints ids hints)
      (all (with_id ids id (top + 1)) (top + 1) steps)
      (add_lifts q vars ids small large low top id (l ∷ ls) hints a n k carry e)
      (rest (with_id ids id (top + 1)) (with_clause small id (l ∷ ls))
      (with_clause large (top + 1) (clause (l ∷ ls))) id (top + 1)
      (carries_more ids small large top id (l ∷ ls) k carry)
      (sym (verdict_adds small low id (l ∷ ls) hints steps e refl) ∙ w))

  delete_lifted : (ids : Ids) (small large : Held) (low top id : ℕ) (gone : List ℕ) (steps : List Step) (r : Refuted)
      (o : Result Held StepFault) → deleted small id gone ≡ o → Carries q vars ids small large top
      → verdict small low (Delete id gone ∷ steps) ≡ Ok r
      → ((now : Held) → Carries q vars ids now large top → verdict now low steps ≡ Ok r
      → Lifted large top (all ids top steps))
      → Lifted large top (all ids top steps)
  delete_lifted ids small large low top id gone steps r (Err f) e carry w rest =
      absurd (ok_err f r (sym (delete_fault small low id gone steps f e) ∙ w))
  delete_lifted ids small large low top id gone steps r (Ok now) e carry w rest =
      rest now (λ i c h. carry i c (deleted_sub id now gone small e i c h))
      (sym (verdict_deletes small low id gone now steps e) ∙ w)

  pub lifts : (steps : List Step) (r : Refuted) → AreAdded (many q vars) steps → (ids : Ids) (small large : Held)
      (low top : ℕ) → Carries q vars ids small large top → verdict small low steps ≡ Ok r
      → Lifted large top (all ids top steps)
  lifts [] r k ids small large low top carry w = absurd (none_ok r w)
  lifts (Add id lits hints ∷ steps) r k ids small large low top carry w =
      add_lifted ids small large low top id lits hints steps r k.0 carry
      (accepted_at small low id lits hints steps r (add_fault small low id lits hints) refl w) w
      (λ ids small large low top c v. lifts steps r k.2 ids small large low top c v)
  lifts (Delete id gone ∷ steps) r k ids small large low top carry w =
      delete_lifted ids small large low top id gone steps r (deleted small id gone) refl carry w
      (λ now c v. lifts steps r k ids now large low top c v)
