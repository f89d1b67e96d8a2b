-- Hints that are accepted over what a cube leaves are accepted, lifted, over the formula.
use Rattle.std.proofs.Common.{◌≡◌, ℕ, zero, suc, ◌+◌, ◌<◌, ◌≤◌, Bool, true, false, cond, eqb, ◌||◌, List, [], ◌∷◌, ◌++◌}
use Rattle.std.proofs.Common.{ℤ, pos, map, Option, Some, None, refl, ap, sym, subst, ◌∙◌, inl, inr, arith}
use Rattle.std.specs.Prelude.{unsigned_abs, leb}
use Rattle.std.specs.List.{list_any}
use Rattle.std.proofs.lemmas.Bool.{lt-leb}
use Rattle.cnf_form.specs.Cnf.{AreLiterals}
use Rattle.lrat_check.specs.declared.reading.Reading.{Reading}
use Rattle.lrat_check.specs.declared.reading.Reading.TheVariants as read
use Rattle.lrat_check.specs.declared.step.StepFault.{StepFault}
use Rattle.lrat_check.specs.declared.step.StepFault.TheVariants as fault
use Rattle.lrat_check.specs.Sets.{negs, reading}
use Rattle.lrat_check.specs.Steps.{Held, walk, add_fault, is_negative}
use Rattle.sat_trail.proofs.Members.{or_both}
use Rattle.sat_cubes.specs.Cubes.{NoneTwice}
use Rattle.sat_cubes.specs.Lifting.{Ids, lifted_hints}
use Rattle.sat_cubes.specs.Lifting as lifting
use Rattle.sat_cubes.proofs.Renumbers.{many, old}
use Rattle.sat_cubes.proofs.Mirrors.{Mirrors, Reflects, reads_true, reads_false, reads_unit, unit_more, begins}

pub none_some : {X : Type 0} (x : X) → None ≡ Some x → ⊥
none_some x e = cc

pub some_none : {X : Type 0} (x : X) → Some x ≡ None → ⊥
some_none x e = cc

module _ (held : Held) (id : ℕ) (set : List ℤ) (h : ℤ) (hs clause : List ℤ) where
  walk_none : held (unsigned_abs h) ≡ None → walk held id set (h ∷ hs) ≡ Some (fault.NoClause id h)
  walk_none c = grind (arith, c)

  walk_true : held (unsigned_abs h) ≡ Some clause → reading set clause ≡ read.True
      → walk held id set (h ∷ hs) ≡ walk held id set hs
  walk_true c r = grind (arith, c, r)

  pub walk_false : held (unsigned_abs h) ≡ Some clause → reading set clause ≡ read.False
      → walk held id set (h ∷ hs) ≡ None
  walk_false c r = grind (arith, c, r)

  pub walk_unit : (l : ℤ) → held (unsigned_abs h) ≡ Some clause → reading set clause ≡ read.Unit l
      → walk held id set (h ∷ hs) ≡ walk held id (set ++ l ∷ []) hs
  walk_unit l c r = grind (arith, c, r)

  walk_open : held (unsigned_abs h) ≡ Some clause → reading set clause ≡ read.Open
      → walk held id set (h ∷ hs) ≡ Some (fault.NotUnit id h)
  walk_open c r = grind (arith, c, r)

pub not_negative : (n : ℕ) → is_negative (pos n) ≡ false
not_negative n = lt-leb (suc n) 0 (omega arith)

-- a step is accepted where its id is next and its hints are
pub accepted : (held : Held) (top : ℕ) (lits hints : List ℤ) → list_any is_negative hints ≡ false
    → walk held (top + 1) (negs lits) hints ≡ None → add_fault held top (top + 1) lits hints ≡ None
accepted held top lits hints n w =
    ap (λ b. cond b (Some (fault.IdOrder (top + 1)))
    (cond (list_any is_negative hints) (Some (fault.Rat (top + 1))) (walk held (top + 1) (negs lits) hints)))
    (lt-leb (top + 1) top (omega arith))
    ∙ ap (λ b. cond b (Some (fault.Rat (top + 1))) (walk held (top + 1) (negs lits) hints)) n ∙ w

pub walked : (held : Held) (top id : ℕ) (lits hints : List ℤ) → add_fault held top id lits hints ≡ None
    → walk held id (negs lits) hints ≡ None
walked held top id lits hints e =
    at (leb id top) (list_any is_negative hints) (walk held id (negs lits) hints) e where
      at : (a b : Bool) (w : Option StepFault)
          → cond a (Some (fault.IdOrder id)) (cond b (Some (fault.Rat id)) w) ≡ None → w ≡ None
      at true b w e = absurd (some_none (fault.IdOrder id) e)
      at false true w e = absurd (some_none (fault.Rat id) e)
      at false false w e = e

never_negative : (ids : Ids) (hints : List ℤ) → list_any is_negative (lifted_hints ids hints) ≡ false
never_negative ids [] = refl
never_negative ids (h ∷ hs) = at (ids (unsigned_abs h)) (never_negative ids hs) where
  at : (o : Option ℕ) → list_any is_negative (lifted_hints ids hs) ≡ false
      → list_any is_negative (lifting.with_hint o (lifted_hints ids hs)) ≡ false
  at None e = e
  at (Some id) e = or_both (is_negative (pos id)) (list_any is_negative (lifted_hints ids hs)) (not_negative id) e

module _ (q : List ℤ) (vars : ℕ) where
  -- where a clause of what is left is held over the formula
  pub record Carried (ids : Ids) (large : Held) (top i : ℕ) (c : List ℤ) : Type 0 where
    pub to : ℕ
    pub is : ids i ≡ Some to
    pub some : 0 < to
    pub up : to ≤ top
    pub clause : List ℤ
    pub held : large to ≡ Some clause
    pub mirrors : Mirrors q vars clause c

  -- each one is
  abbrev pub Carries : Ids → Held → Held → ℕ → Type 0
  Carries ids small large top = (i : ℕ) (c : List ℤ) → small i ≡ Some c → Carried ids large top i c

  module _ (ids : Ids) (small large : Held) (top id next : ℕ)
      (carry : (i : ℕ) (c : List ℤ) → small i ≡ Some c → Carried ids large top i c) where
    hint_is : (h : ℤ) (hs : List ℤ) (to : ℕ) → ids (unsigned_abs h) ≡ Some to
        → lifted_hints ids (h ∷ hs) ≡ pos to ∷ lifted_hints ids hs
    hint_is h hs to e = ap (λ o. lifting.with_hint o (lifted_hints ids hs)) e

    by_reading : (set s : List ℤ) (h : ℤ) (hs c : List ℤ) (r : Reading) → Reflects q vars set s
        → small (unsigned_abs h) ≡ Some c → reading s c ≡ r → walk small id s (h ∷ hs) ≡ None
        → Carried ids large top (unsigned_abs h) c
        → ((set s : List ℤ) → Reflects q vars set s → walk small id s hs ≡ None
        → walk large next set (lifted_hints ids hs) ≡ None)
        → walk large next set (lifted_hints ids (h ∷ hs)) ≡ None
    by_reading set s h hs c read.True f e k w d rest =
        ap (walk large next set) (hint_is h hs d.to d.is)
        ∙ walk_true large next set (pos d.to) (lifted_hints ids hs) d.clause d.held
        (reads_true q vars d.clause c set s d.mirrors f k)
        ∙ rest set s f (sym (walk_true small id s h hs c e k) ∙ w)
    by_reading set s h hs c read.False f e k w d rest =
        ap (walk large next set) (hint_is h hs d.to d.is)
        ∙ walk_false large next set (pos d.to) (lifted_hints ids hs) d.clause d.held
        (reads_false q vars d.clause c set s d.mirrors f k)
    by_reading set s h hs c (read.Unit l) f e k w d rest =
        let u = reads_unit q vars d.clause c set s d.mirrors f l k in
        ap (walk large next set) (hint_is h hs d.to d.is)
        ∙ walk_unit large next set (pos d.to) (lifted_hints ids hs) d.clause (old q vars l) d.held u.1
        ∙ rest (set ++ old q vars l ∷ []) (s ++ l ∷ []) (unit_more q vars set s l f u.0)
        (sym (walk_unit small id s h hs c l e k) ∙ w)
    by_reading set s h hs c read.Open f e k w d rest =
        absurd (some_none (fault.NotUnit id h) (sym (walk_open small id s h hs c e k) ∙ w))

    by_held : (set s : List ℤ) (h : ℤ) (hs : List ℤ) (o : Option (List ℤ)) → Reflects q vars set s
        → small (unsigned_abs h) ≡ o → walk small id s (h ∷ hs) ≡ None
        → ((set s : List ℤ) → Reflects q vars set s → walk small id s hs ≡ None
        → walk large next set (lifted_hints ids hs) ≡ None)
        → walk large next set (lifted_hints ids (h ∷ hs)) ≡ None
    by_held set s h hs None f e w rest =
        absurd (some_none (fault.NoClause id h) (sym (walk_none small id s h hs [] e) ∙ w))
    by_held set s h hs (Some c) f e w rest =
        by_reading set s h hs c (reading s c) f e refl w (carry (unsigned_abs h) c e) rest

    walk_lifts : (hints set s : List ℤ) → Reflects q vars set s → walk small id s hints ≡ None
        → walk large next set (lifted_hints ids hints) ≡ None
    walk_lifts [] set s f w = absurd (some_none (fault.NoConflict id) w)
    walk_lifts (h ∷ hs) set s f w =
        by_held set s h hs (small (unsigned_abs h)) f refl w (λ more m g x. walk_lifts hs more m g x)

  -- a lifted step is accepted
  pub add_lifts : (ids : Ids) (small large : Held) (low top id : ℕ) (lits hints : List ℤ) → AreLiterals vars q
      → NoneTwice q → AreLiterals (many q vars) lits → Carries ids small large top
      → add_fault small low id lits hints ≡ None
      → add_fault large top (top + 1) (map (old q vars) lits ++ negs q) (lifted_hints ids hints) ≡ None
  add_lifts ids small large low top id lits hints a n k carry e =
      accepted large top (map (old q vars) lits ++ negs q) (lifted_hints ids hints) (never_negative ids hints)
      (walk_lifts ids small large top id (top + 1) carry hints (negs (map (old q vars) lits ++ negs q)) (negs lits)
      (begins q vars lits a n k) (walked small low id lits hints e))
