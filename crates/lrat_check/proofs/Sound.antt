-- Where hints are accepted, no values make the held clauses true and the step's literals false.
use Rattle.std.proofs.Common.{◌≡◌, ℕ, zero, suc, ◌+◌, Bool, true, false, not, cond, ◌&&◌, ◌||◌, List, [], ◌∷◌, ◌++◌}
use Rattle.std.proofs.Common.{ℤ, pos, negsuc, neg_ℤ, Option, Some, None, refl, ap, sym, subst, ◌∙◌, inl, inr, arith}
use Rattle.std.specs.Prelude.{Result, Ok, Err, unsigned_abs, eqb, slice_get, leb, length}
use Rattle.std.specs.List.{list_any}
use Rattle.std.specs.Ordering.{int_eq}
use Rattle.std.specs.Cmp.{signed_Decides}
use Rattle.std.proofs.lemmas.Bool.{false≢true, cases_Bool}
use Rattle.cnf_form.specs.Cnf.{literal_true, clause_true, formula_true}
use Rattle.lrat_check.specs.declared.reading.Reading.{Reading}
use Rattle.lrat_check.specs.declared.reading.Reading.TheVariants as read
use Rattle.lrat_check.specs.declared.step.Step.{Step}
use Rattle.lrat_check.specs.declared.step.Step.TheVariants.{Add, Delete}
use Rattle.lrat_check.specs.declared.step.Refuted.{Refuted}
use Rattle.lrat_check.specs.declared.step.StepFault.{StepFault}
use Rattle.lrat_check.specs.declared.step.StepFault.TheVariants as fault
use Rattle.lrat_check.specs.Sets.{has, is_false, first_open, other_open, reading_of, reading, negs, IsLit, AreLits}
use Rattle.lrat_check.proofs.Stores.{with_held, deleted_held, deleted_one, none_some}
use Rattle.lrat_check.specs.Steps.{Held, walk, numbered, add_fault, deleted, verdict, judged, is_negative, is_empty}
use Rattle.lrat_check.specs.Steps.{with_clause, without_clause, AreSteps}
use Rattle.lrat_check.specs.Store.{AreHeld}

-- the values make each literal of the set true
abbrev pub SetTrue : (ℕ → Bool) → List ℤ → Type 0
SetTrue v set = (l : ℤ) → has set l ≡ true → literal_true v l ≡ true

-- the values make each held clause true
abbrev pub HoldTrue : (ℕ → Bool) → Held → Type 0
HoldTrue v held = (id : ℕ) (clause : List ℤ) → held id ≡ Some clause → clause_true v clause ≡ true

not_not : (b : Bool) → not (not b) ≡ b
not_not true = refl
not_not false = refl

pub neg_true : (v : ℕ → Bool) (l : ℤ) → IsLit l → literal_true v (neg_ℤ l) ≡ not (literal_true v l)
neg_true v (pos zero) h = absurd (omega (arith, h.0))
neg_true v (pos (suc n)) h = let e : n + 1 ≡ suc n = omega arith in ap (λ k. not (v k)) e
neg_true v (negsuc n) h = let e : suc n ≡ n + 1 = omega arith in ap v e ∙ sym (not_not (v (n + 1)))

true_not : (b : Bool) → not b ≡ true → b ≡ false
true_not true h = absurd (false≢true h)
true_not false h = refl

-- a false literal isn't true
is_untrue : (v : ℕ → Bool) (set : List ℤ) (l : ℤ) → SetTrue v set → IsLit l → is_false set l ≡ true
    → literal_true v l ≡ false
is_untrue v set l s h f = true_not (literal_true v l) (sym (neg_true v l h) ∙ s (neg_ℤ l) f)

some_none : {X : Type 0} (x : X) → Some x ≡ None → ⊥
some_none x e = cc

some_is : {X : Type 0} (x y : X) → Some x ≡ Some y → x ≡ y
some_is x y e = cc

or_both : (a b : Bool) → a ≡ false → b ≡ false → (a || b) ≡ false
or_both a b e f = ap (λ x. x || b) e ∙ f

or_rest : (a b : Bool) → a ≡ false → (a || b) ≡ true → b ≡ true
or_rest true b e h = absurd (false≢true (sym e))
or_rest false b e h = h

or_none : (a b : Bool) → (a || b) ≡ false → (a ≡ false) × (b ≡ false)
or_none true b h = absurd (false≢true (sym h))
or_none false b h = (refl, h)

none_open : (v : ℕ → Bool) (set clause : List ℤ) → SetTrue v set → AreLits clause → first_open set clause ≡ None
    → clause_true v clause ≡ false
none_open v set [] s h e = refl
none_open v set (l ∷ ls) s h e = elim (cases_Bool (is_false set l)) [
  | inl f ↦ or_both (literal_true v l) (clause_true v ls) (is_untrue v set l s h.0 f)
      (none_open v set ls s h.1 (sym (ap (λ b. cond b (first_open set ls) (Some l)) f) ∙ e))
  | inr f ↦ absurd (some_none l (sym (ap (λ b. cond b (first_open set ls) (Some l)) f) ∙ e))
]

same_is : (a b : ℤ) → int_eq a b ≡ true → a ≡ b
same_is a b e = (signed_Decides a b).0 e

other_false : (a b : Bool) → (not a && not b) ≡ false → b ≡ false → a ≡ true
other_false true b h e = refl
other_false false true h e = absurd (false≢true (sym e))
other_false false false h e = absurd (false≢true (sym h))

-- where one literal alone is not false, it is true
alone : (v : ℕ → Bool) (set : List ℤ) (l : ℤ) (clause : List ℤ) → SetTrue v set → AreLits clause
    → other_open set l clause ≡ false → clause_true v clause ≡ true → literal_true v l ≡ true
alone v set l [] s h o t = absurd (false≢true t)
alone v set l (m ∷ ms) s h o t =
    let p = or_none (not (is_false set m) && not (int_eq l m)) (other_open set l ms) o in
    elim (cases_Bool (literal_true v m)) [
      | inl k ↦ elim (cases_Bool (int_eq l m)) [
        | inl q ↦ ap (literal_true v) (same_is l m q) ∙ k
        | inr q ↦ absurd (false≢true (sym (is_untrue v set m s h.0 (other_false (is_false set m) (int_eq l m) p.0 q))
            ∙ k))
      ]
      | inr k ↦ alone v set l ms s h.1 p.1 (or_rest (literal_true v m) (clause_true v ms) k t)
    ]

has_append : (a b : List ℤ) (x : ℤ) → has (a ++ b) x ≡ (has a x || has b x)
has_append [] b x = refl
has_append (l ∷ ls) b x =
    ap (λ z. int_eq x l || z) (has_append ls b x) ∙ or_assoc (int_eq x l) (has ls x) (has b x) where
      or_assoc : (a b c : Bool) → (a || (b || c)) ≡ (a || b || c)
      or_assoc true b c = refl
      or_assoc false b c = refl

or_cases : (a b c : Bool) → (a || (b || c)) ≡ true → c ≡ false → (a ≡ false) → b ≡ true
or_cases true b c h e f = absurd (false≢true (sym f))
or_cases false true c h e f = refl
or_cases false false c h e f = absurd (false≢true (sym e ∙ h))

set_more : (v : ℕ → Bool) (set : List ℤ) (l : ℤ) → SetTrue v set → literal_true v l ≡ true → SetTrue v (set ++ l ∷ [])
set_more v set l s t x h = elim (cases_Bool (has set x)) [
  | inl k ↦ s x k
  | inr k ↦ ap (literal_true v) (same_is x l
      (or_cases (has set x) (int_eq x l) false (sym (has_append set (l ∷ []) x) ∙ h) refl k)) ∙ t
]

reading_parts : (b : Bool) (o : Option ℤ) (other : ℤ → Bool) (r : Reading)
    → cond b read.True (reading_of o other) ≡ r → (r ≡ read.True → ⊥) → reading_of o other ≡ r
reading_parts true o other r e n = absurd (n (sym e))
reading_parts false o other r e n = e

false_part : (o : Option ℤ) (other : ℤ → Bool) → reading_of o other ≡ read.False → o ≡ None
false_part None other e = refl
false_part (Some l) other e = absurd (never (other l) l e) where
  never : (b : Bool) (l : ℤ) → cond b read.Open (read.Unit l) ≡ read.False → ⊥
  never true l e = cc
  never false l e = cc

unit_part : (o : Option ℤ) (other : ℤ → Bool) (l : ℤ) → reading_of o other ≡ read.Unit l → (o ≡ Some l)
    × (other l ≡ false)
unit_part None other l e = absurd (false_unit l e) where
  false_unit : (l : ℤ) → read.False ≡ read.Unit l → ⊥
  false_unit l e = cc
unit_part (Some m) other l e = unit_at (other m) refl e where
  open_unit : (l : ℤ) → read.Open ≡ read.Unit l → ⊥
  open_unit l e = cc

  unit_is : (m l : ℤ) → read.Unit m ≡ read.Unit l → m ≡ l
  unit_is m l e = cc

  unit_at : (b : Bool) → other m ≡ b → cond b read.Open (read.Unit m) ≡ read.Unit l → (Some m ≡ Some l)
      × (other l ≡ false)
  unit_at true k e = absurd (open_unit l e)
  unit_at false k e = (ap Some (unit_is m l e), ap other (sym (unit_is m l e)) ∙ k)

false_true : read.False ≡ read.True → ⊥
false_true e = cc

unit_true : (l : ℤ) → read.Unit l ≡ read.True → ⊥
unit_true l e = cc

module _ (held : Held) (id : ℕ) (set : List ℤ) (h : ℤ) (hs clause : List ℤ) where
  walk_none : held (unsigned_abs h) ≡ None → walk held id set (h ∷ hs) ≡ Some (fault.NoClause id h)
  walk_none c = grind (arith, c)

  walk_true : held (unsigned_abs h) ≡ Some clause → reading set clause ≡ read.True
      → walk held id set (h ∷ hs) ≡ walk held id set hs
  walk_true c r = grind (arith, c, r)

  walk_unit : (l : ℤ) → held (unsigned_abs h) ≡ Some clause → reading set clause ≡ read.Unit l
      → walk held id set (h ∷ hs) ≡ walk held id (set ++ l ∷ []) hs
  walk_unit l c r = grind (arith, c, r)

  walk_open : held (unsigned_abs h) ≡ Some clause → reading set clause ≡ read.Open
      → walk held id set (h ∷ hs) ≡ Some (fault.NotUnit id h)
  walk_open c r = grind (arith, c, r)

module _ (v : ℕ → Bool) (held : Held) (id : ℕ) (lits : AreHeld held) (all : HoldTrue v held) where
  read_sound : (set : List ℤ) (h : ℤ) (hs clause : List ℤ) (r : Reading) → SetTrue v set
      → held (unsigned_abs h) ≡ Some clause → reading set clause ≡ r → walk held id set (h ∷ hs) ≡ None
      → ((s : List ℤ) → SetTrue v s → walk held id s hs ≡ None → ⊥) → ⊥
  read_sound set h hs clause read.True s c r w rest = rest set s (sym (walk_true held id set h hs clause c r) ∙ w)
  read_sound set h hs clause read.False s c r w rest =
      let none = false_part (first_open set clause) (λ l. other_open set l clause)
      (reading_parts (list_any (has set) clause) (first_open set clause)
      (λ l. other_open set l clause) read.False r false_true) in
      false≢true (sym (none_open v set clause s (lits (unsigned_abs h) clause c) none) ∙ all (unsigned_abs h) clause c)
  read_sound set h hs clause (read.Unit l) s c r w rest =
      let one = unit_part (first_open set clause) (λ m. other_open set m clause) l
      (reading_parts (list_any (has set) clause) (first_open set clause) (λ m. other_open set m clause)
      (read.Unit l) r (unit_true l)) in
      rest (set ++ l ∷ []) (set_more v set l s
      (alone v set l clause s (lits (unsigned_abs h) clause c) one.1 (all (unsigned_abs h) clause c)))
      (sym (walk_unit held id set h hs clause l c r) ∙ w)
  read_sound set h hs clause read.Open s c r w rest =
      some_none (fault.NotUnit id h) (sym (walk_open held id set h hs clause c r) ∙ w)

  hint_sound : (set : List ℤ) (h : ℤ) (hs : List ℤ) (o : Option (List ℤ)) → SetTrue v set → held (unsigned_abs h) ≡ o
      → walk held id set (h ∷ hs) ≡ None → ((s : List ℤ) → SetTrue v s → walk held id s hs ≡ None → ⊥) → ⊥
  hint_sound set h hs None s c w rest = some_none (fault.NoClause id h) (sym (walk_none held id set h hs [] c) ∙ w)
  hint_sound set h hs (Some clause) s c w rest = read_sound set h hs clause (reading set clause) s c refl w rest

  pub walk_sound : (set hints : List ℤ) → SetTrue v set → walk held id set hints ≡ None → ⊥
  walk_sound set [] s w = some_none (fault.NoConflict id) w
  walk_sound set (h ∷ hs) s w = hint_sound set h hs (held (unsigned_abs h)) s refl w (λ t k x. walk_sound t hs k x)

negs_true : (v : ℕ → Bool) (lits : List ℤ) → AreLits lits → clause_true v lits ≡ false → SetTrue v (negs lits)
negs_true v [] h e x k = absurd (false≢true k)
negs_true v (l ∷ ls) h e x k =
    let p = or_none (literal_true v l) (clause_true v ls) e in
    elim (cases_Bool (int_eq x (neg_ℤ l))) [
      | inl q ↦ ap (literal_true v) (same_is x (neg_ℤ l) q) ∙ neg_true v l h.0 ∙ ap not p.0
      | inr q ↦ negs_true v ls h.1 p.1 x (or_rest (int_eq x (neg_ℤ l)) (has (negs ls) x) q k)
    ]

add_parts : (held : Held) (top id : ℕ) (lits hints : List ℤ) → add_fault held top id lits hints ≡ None
    → walk held id (negs lits) hints ≡ None
add_parts held top id lits hints e =
    walked (leb id top) (list_any is_negative hints) (walk held id (negs lits) hints) e where
      walked : (a b : Bool) (w : Option StepFault)
          → cond a (Some (fault.IdOrder id)) (cond b (Some (fault.Rat id)) w) ≡ None → w ≡ None
      walked true b w e = absurd (some_none (fault.IdOrder id) e)
      walked false true w e = absurd (some_none (fault.Rat id) e)
      walked false false w e = e

not_false : (b : Bool) → (b ≡ false → ⊥) → b ≡ true
not_false true h = refl
not_false false h = absurd (h refl)

-- an accepted clause is true where all held ones are
accepted_true : (v : ℕ → Bool) (held : Held) (top id : ℕ) (lits hints : List ℤ) → AreHeld held → HoldTrue v held
    → AreLits lits → add_fault held top id lits hints ≡ None → clause_true v lits ≡ true
accepted_true v held top id lits hints a t h e = not_false (clause_true v lits)
    (λ f. walk_sound v held id a t (negs lits) hints (negs_true v lits h f) (add_parts held top id lits hints e))

true_at : (v : ℕ → Bool) (held : Held) (i : ℕ) (lits clause : List ℤ) (b : Bool) → HoldTrue v held
    → clause_true v lits ≡ true → cond b (Some lits) (held i) ≡ Some clause → clause_true v clause ≡ true
true_at v held i lits clause true t k e = ap (clause_true v) (sym (some_is lits clause e)) ∙ k
true_at v held i lits clause false t k e = t i clause e

without_true_at : (v : ℕ → Bool) (held : Held) (i : ℕ) (clause : List ℤ) (b : Bool) → HoldTrue v held
    → cond b None (held i) ≡ Some clause → clause_true v clause ≡ true
without_true_at v held i clause true t e = absurd (none_some clause e)
without_true_at v held i clause false t e = t i clause e

ok_is : (x y : Held) → (let r : Result Held StepFault = Ok x in r) ≡ Ok y → x ≡ y
ok_is x y e = cc

deleted_true : (v : ℕ → Bool) (id : ℕ) (now held : Held) (ids : List ℕ) → HoldTrue v held
    → deleted held id ids ≡ Ok now → HoldTrue v now
deleted_true v id now held [] t e = subst (HoldTrue v) (ok_is held now e) t
deleted_true v id now held (i ∷ ids) t e = deleted_true v id now (without_clause held i) ids
    (λ j clause k. without_true_at v held j clause (eqb i j) t k) (deleted_one held id i ids now (held i) refl e)

refused_none : (r : Refuted) → (let e : Result Refuted StepFault = Err fault.NoEmpty in e) ≡ Ok r → ⊥
refused_none r e = cc

refused_at : (f : StepFault) (r : Refuted) → (let e : Result Refuted StepFault = Err f in e) ≡ Ok r → ⊥
refused_at f r e = cc

pub verdict_refused : (held : Held) (top id : ℕ) (lits hints : List ℤ) (steps : List Step) (f : StepFault)
    → add_fault held top id lits hints ≡ Some f → verdict held top (Add id lits hints ∷ steps) ≡ Err f
verdict_refused held top id lits hints steps f e = grind (arith, e)

pub verdict_empty : (held : Held) (top id : ℕ) (lits hints : List ℤ) (steps : List Step)
    → add_fault held top id lits hints ≡ None → is_empty lits ≡ true
    → verdict held top (Add id lits hints ∷ steps) ≡ Ok (record { id = id })
verdict_empty held top id lits hints steps e k = grind (arith, e, k)

pub verdict_adds : (held : Held) (top id : ℕ) (lits hints : List ℤ) (steps : List Step)
    → add_fault held top id lits hints ≡ None → is_empty lits ≡ false
    → verdict held top (Add id lits hints ∷ steps) ≡ verdict (with_clause held id lits) id steps
verdict_adds held top id lits hints steps e k = grind (arith, e, k)

pub verdict_deletes : (held : Held) (top id : ℕ) (ids : List ℕ) (now : Held) (steps : List Step)
    → deleted held id ids ≡ Ok now → verdict held top (Delete id ids ∷ steps) ≡ verdict now top steps
verdict_deletes held top id ids now steps e = grind (arith, e)

pub verdict_not_held : (held : Held) (top id : ℕ) (ids : List ℕ) (f : StepFault) (steps : List Step)
    → deleted held id ids ≡ Err f → verdict held top (Delete id ids ∷ steps) ≡ Err f
verdict_not_held held top id ids f steps e = grind (arith, e)

empty_false : (v : ℕ → Bool) (lits : List ℤ) → is_empty lits ≡ true → clause_true v lits ≡ false
empty_false v [] e = refl
empty_false v (l ∷ ls) e = absurd (false≢true e)

add_sound : (v : ℕ → Bool) (r : Refuted) (id : ℕ) (lits hints : List ℤ) (steps : List Step) (held : Held) (top : ℕ)
    (o : Option StepFault) (b : Bool) → add_fault held top id lits hints ≡ o → is_empty lits ≡ b → AreHeld held
    → AreLits lits → HoldTrue v held → verdict held top (Add id lits hints ∷ steps) ≡ Ok r
    → (AreHeld (with_clause held id lits) → HoldTrue v (with_clause held id lits)
    → verdict (with_clause held id lits) id steps ≡ Ok r → ⊥) → ⊥
add_sound v r id lits hints steps held top (Some f) b e k h l t w rest =
    refused_at f r (sym (verdict_refused held top id lits hints steps f e) ∙ w)
add_sound v r id lits hints steps held top None true e k h l t w rest =
    false≢true (sym (empty_false v lits k) ∙ accepted_true v held top id lits hints h t l e)
add_sound v r id lits hints steps held top None false e k h l t w rest =
    rest (with_held held id lits h l) (λ i clause q. true_at v held i lits clause (eqb id i) t
    (accepted_true v held top id lits hints h t l e) q) (sym (verdict_adds held top id lits hints steps e k) ∙ w)

delete_sound : (v : ℕ → Bool) (r : Refuted) (id : ℕ) (ids : List ℕ) (steps : List Step) (held : Held) (top : ℕ)
    (o : Result Held StepFault) → deleted held id ids ≡ o → AreHeld held → HoldTrue v held
    → verdict held top (Delete id ids ∷ steps) ≡ Ok r
    → ((now : Held) → AreHeld now → HoldTrue v now → verdict now top steps ≡ Ok r → ⊥) → ⊥
delete_sound v r id ids steps held top (Err f) e h t w rest =
    refused_at f r (sym (verdict_not_held held top id ids f steps e) ∙ w)
delete_sound v r id ids steps held top (Ok now) e h t w rest = rest now (deleted_held id now held ids h e)
    (deleted_true v id now held ids t e) (sym (verdict_deletes held top id ids now steps e) ∙ w)

-- steps that refute leave no values that make all held clauses true
pub verdict_sound : (v : ℕ → Bool) (r : Refuted) (steps : List Step) (held : Held) (top : ℕ) → AreHeld held
    → AreSteps steps → HoldTrue v held → verdict held top steps ≡ Ok r → ⊥
verdict_sound v r [] held top h s t w = refused_none r w
verdict_sound v r (Add id lits hints ∷ steps) held top h s t w =
    add_sound v r id lits hints steps held top (add_fault held top id lits hints) (is_empty lits) refl refl h s.0 t w
    (λ h2 t2 w2. verdict_sound v r steps (with_clause held id lits) id h2 s.1 t2 w2)
verdict_sound v r (Delete id ids ∷ steps) held top h s t w =
    delete_sound v r id ids steps held top (deleted held id ids) refl h t w
    (λ now h2 t2 w2. verdict_sound v r steps now top h2 s.1 t2 w2)

and_parts : (a b : Bool) → (a && b) ≡ true → (a ≡ true) × (b ≡ true)
and_parts true b e = (refl, e)
and_parts false b e = absurd (false≢true e)

get_true : (v : ℕ → Bool) (clauses : List (List ℤ)) (p : ℕ) (clause : List ℤ) → formula_true v clauses ≡ true
    → slice_get clauses p ≡ Some clause → clause_true v clause ≡ true
get_true v [] p clause h e = absurd (none_some clause e)
get_true v (c ∷ cs) zero clause h e =
    ap (clause_true v) (sym (some_is c clause e)) ∙ (and_parts (clause_true v c) (formula_true v cs) h).0
get_true v (c ∷ cs) (suc p) clause h e = get_true v cs p clause (and_parts (clause_true v c) (formula_true v cs) h).1 e

numbered_true : (v : ℕ → Bool) (clauses : List (List ℤ)) → formula_true v clauses ≡ true → HoldTrue v (numbered clauses)
numbered_true v clauses h zero clause e = absurd (none_some clause e)
numbered_true v clauses h (suc p) clause e = get_true v clauses p clause h e

not_true : (a : Bool) → (a ≡ true → ⊥) → a ≡ false
not_true true h = absurd (h refl)
not_true false h = refl

-- and none that make the formula true
pub judged_sound : (v : ℕ → Bool) (r : Refuted) (clauses : List (List ℤ)) (steps : List Step)
    → AreHeld (numbered clauses) → AreSteps steps → judged clauses steps ≡ Ok r → formula_true v clauses ≡ false
judged_sound v r clauses steps h s w = not_true (formula_true v clauses)
    (λ t. verdict_sound v r steps (numbered clauses) (length clauses) h s (numbered_true v clauses t) w)
