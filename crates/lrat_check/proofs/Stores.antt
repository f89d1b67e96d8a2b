-- What a store holds after a change.
use Rattle.std.proofs.Common.{◌≡◌, ℕ, zero, suc, ◌+◌, ◌^◌, ◌<◌, ◌≤◌, Bool, true, false, cond, eqb, List, [], ◌∷◌}
use Rattle.std.proofs.Common.{◌++◌, ℤ, length, pos, take, drop, get_or, Option, Some, None, refl, ap, sym, subst, ◌∙◌}
use Rattle.std.proofs.Common.{inl, inr, arith}
use Rattle.std.specs.Prelude.{slice_get, IsSome, Result, Ok, Err, leb}
use Rattle.std.specs.List.{list_any}
use Rattle.std.proofs.lemmas.Bool.Decides.{nat_tests}
use Rattle.std.proofs.lemmas.Bool.{cases_eq, false≢true}
use Rattle.std.proofs.lemmas.List.{take_more, length-take-le, take_all, drop_more, get_or_read}
use mathlib.Core.Path.{fun_ext}
use Rattle.cnf_form.specs.Cnf.{IsLiteral, AreLiterals, AreClauses}
use Rattle.lrat_check.specs.Sets.{IsLit, AreLits, negs}
use Rattle.lrat_check.specs.Store.{AreHeld}
use Rattle.lrat_check.specs.declared.step.StepFault.{StepFault}
use Rattle.lrat_check.specs.declared.step.StepFault.TheVariants as fault
use Rattle.lrat_check.specs.Steps.{Held, numbered, with_clause, without_clause, deleted, add_fault, is_negative, walk}

same_get : (cs : List (List ℤ)) (c : List ℤ) (p : ℕ) → (p ≡ length cs → ⊥) → slice_get cs p ≡ slice_get (cs ++ c ∷ []) p
same_get [] c zero n = absurd (n refl)
same_get [] c (suc p) n = refl
same_get (d ∷ cs) c zero n = refl
same_get (d ∷ cs) c (suc p) n = same_get cs c p (λ e. n (ap suc e))

last_get : (cs : List (List ℤ)) (c : List ℤ) (p : ℕ) → p ≡ length cs → slice_get (cs ++ c ∷ []) p ≡ Some c
last_get [] c zero e = refl
last_get [] c (suc p) e = absurd (omega arith)
last_get (d ∷ cs) c zero e = absurd (omega arith)
last_get (d ∷ cs) c (suc p) e = last_get cs c p (omega arith)

eqb_self : (a b : ℕ) → a ≡ b → eqb a b ≡ true
eqb_self a b e = grind arith

eqb_apart : (a b : ℕ) → (a ≡ b → ⊥) → eqb a b ≡ false
eqb_apart a b n = grind arith

-- one more clause has the next id
pub numbered_more : (cs : List (List ℤ)) (c : List ℤ) (n : ℕ) → n ≡ length cs + 1
    → with_clause (numbered cs) n c ≡ numbered (cs ++ c ∷ [])
numbered_more cs c n e = fun_ext (λ i. at i) where
  at : (i : ℕ) → with_clause (numbered cs) n c i ≡ numbered (cs ++ c ∷ []) i
  at zero = ap (λ b. cond b (Some c) None) (eqb_apart n zero (λ k. omega arith))
  at (suc p) = elim (cases_eq p (length cs)) [
    | inl k ↦ ap (λ b. cond b (Some c) (slice_get cs p)) (eqb_self n (suc p) (omega arith)) ∙ sym (last_get cs c p k)
    | inr k ↦ ap (λ b. cond b (Some c) (slice_get cs p)) (eqb_apart n (suc p) (λ q. k (omega arith)))
        ∙ same_get cs c p k
  ]

pub numbered_step : (cs : List (List ℤ)) (i : ℕ) (c : List ℤ) → i < length cs → c ≡ get_or cs i []
    → with_clause (numbered (take i cs)) (i + 1) c ≡ numbered (take (i + 1) cs)
numbered_step cs i c h e = numbered_more (take i cs) c (i + 1) (omega (arith, length-take-le i cs (omega arith)))
    ∙ ap (λ x. numbered (take i cs ++ x ∷ [])) e ∙ ap numbered (sym (take_more cs i [] h))

-- each clause of the formula is held
pub held_all : (clauses items : List (List ℤ)) (i n : ℕ) (held : Held) → held ≡ numbered (take i items)
    → length items ≤ i → items ≡ clauses → held ≡ numbered clauses
held_all clauses items i n held e h k = e ∙ ap numbered (take_all i items h ∙ k)

lit_is : (vars : ℕ) (l : ℤ) → vars < 2 ^ 63 → IsLiteral vars l → IsLit l
lit_is vars l v h = (h.0, omega (arith, h.1))

pub lits_are : (vars : ℕ) (clause : List ℤ) → vars < 2 ^ 63 → AreLiterals vars clause → AreLits clause
lits_are vars [] v h = tt
lits_are vars (l ∷ ls) v h = (lit_is vars l v h.0, lits_are vars ls v h.1)

some_is : {X : Type 0} (x y : X) → Some x ≡ Some y → x ≡ y
some_is x y e = cc

pub none_some : {X : Type 0} (x : X) → None ≡ Some x → ⊥
none_some x e = cc

get_are : (vars : ℕ) (clauses : List (List ℤ)) (p : ℕ) (clause : List ℤ) → vars < 2 ^ 63 → AreClauses vars clauses
    → slice_get clauses p ≡ Some clause → AreLits clause
get_are vars [] p clause v h e = absurd (none_some clause e)
get_are vars (c ∷ cs) zero clause v h e = subst AreLits (some_is c clause e) (lits_are vars c v h.0)
get_are vars (c ∷ cs) (suc p) clause v h e = get_are vars cs p clause v h.1 e

-- the literals of a formula's clauses have complements
pub numbered_held : (vars : ℕ) (clauses : List (List ℤ)) → vars < 2 ^ 63 → AreClauses vars clauses
    → AreHeld (numbered clauses)
numbered_held vars clauses v h zero clause e = absurd (none_some clause e)
numbered_held vars clauses v h (suc p) clause e = get_are vars clauses p clause v h e

held_at : (held : Held) (id i : ℕ) (lits clause : List ℤ) (b : Bool) → AreHeld held → AreLits lits
    → cond b (Some lits) (held i) ≡ Some clause → AreLits clause
held_at held id i lits clause true h k e = subst AreLits (some_is lits clause e) k
held_at held id i lits clause false h k e = h i clause e

pub with_held : (held : Held) (id : ℕ) (lits : List ℤ) → AreHeld held → AreLits lits
    → AreHeld (with_clause held id lits)
with_held held id lits h k i clause e = held_at held id i lits clause (eqb id i) h k e

kept_at : (held : Held) (i : ℕ) (clause : List ℤ) (b : Bool) → AreHeld held → cond b None (held i) ≡ Some clause
    → AreLits clause
kept_at held i clause true h e = absurd (none_some clause e)
kept_at held i clause false h e = h i clause e

without_held : (held : Held) (id : ℕ) → AreHeld held → AreHeld (without_clause held id)
without_held held id h i clause e = kept_at held i clause (eqb id i) h e

pub ok_err : {X : Type 0} (f : StepFault) (x : X) → Err f ≡ Ok x → ⊥
ok_err f x e = cc

ok_is : {X : Type 0} (x y : X) → (let r : Result X StepFault = Ok x in r) ≡ Ok y → x ≡ y
ok_is x y e = cc

deleted_not : (held : Held) (id i : ℕ) (ids : List ℕ) → held i ≡ None
    → deleted held id (i ∷ ids) ≡ Err (fault.NoClause id (pos i))
deleted_not held id i ids k = grind (arith, k)

deleted_on : (held : Held) (id i : ℕ) (ids : List ℕ) (c : List ℤ) → held i ≡ Some c
    → deleted held id (i ∷ ids) ≡ deleted (without_clause held i) id ids
deleted_on held id i ids c k = grind (arith, k)

pub deleted_one : (held : Held) (id i : ℕ) (ids : List ℕ) (now : Held) (o : Option (List ℤ)) → held i ≡ o
    → deleted held id (i ∷ ids) ≡ Ok now → deleted (without_clause held i) id ids ≡ Ok now
deleted_one held id i ids now None k e =
    absurd (ok_err (fault.NoClause id (pos i)) now (sym (deleted_not held id i ids k) ∙ e))
deleted_one held id i ids now (Some c) k e = sym (deleted_on held id i ids c k) ∙ e

pub deleted_held : (id : ℕ) (now : Held) (held : Held) (ids : List ℕ) → AreHeld held → deleted held id ids ≡ Ok now
    → AreHeld now
deleted_held id now held [] h e = subst AreHeld (ok_is held now e) h
deleted_held id now held (i ∷ ids) h e = deleted_held id now (without_clause held i) ids (without_held held i h)
    (deleted_one held id i ids now (held i) refl e)

deleted_some : (held now : Held) (id i : ℕ) (ids : List ℕ) (o : Option (List ℤ)) → held i ≡ o → IsSome o
    → now ≡ without_clause held i → deleted now id ids ≡ deleted held id (i ∷ ids)
deleted_some held now id i ids None k s e = absurd (false≢true s)
deleted_some held now id i ids (Some c) k s e = ap (λ h. deleted h id ids) e ∙ sym (deleted_on held id i ids c k)

-- one id is deleted
pub deleted_step : (held now : Held) (id : ℕ) (ids : List ℕ) (k i : ℕ) → k < length ids → i ≡ get_or ids k 0
    → IsSome (held i) × (now ≡ without_clause held i) → deleted now id (drop (k + 1) ids) ≡ deleted held id (drop k ids)
deleted_step held now id ids k i h e r =
    deleted_some held now id i (drop (k + 1) ids) (held i) refl r.0 r.1
    ∙ ap (λ x. deleted held id (x ∷ drop (k + 1) ids)) e ∙ ap (deleted held id) (sym (drop_more ids k 0 h))

pub store_step : (held now : Held) (items : List (List ℤ)) (i id : ℕ) (item clause : List ℤ)
    → held ≡ numbered (take i items) → now ≡ with_clause held (id + 1) clause → id ≡ i → i < length items
    → item ≡ get_or items i item → clause ≡ item → now ≡ numbered (take (i + 1) items)
store_step held now items i id item clause h n e lt is k =
    n ∙ ap (λ x. with_clause x (id + 1) clause) h ∙ ap (λ j. with_clause (numbered (take i items)) (j + 1) clause) e
    ∙ numbered_step items i clause lt (k ∙ get_or_read items i item lt is [])

pub held_none : (held : Held) → ((id : ℕ) → held id ≡ None) → held ≡ numbered []
held_none held h = fun_ext at where
  at : (id : ℕ) → held id ≡ numbered [] id
  at zero = h zero
  at (suc place) = h (suc place)

-- an added clause that isn't refused has an id above all before it
pub above_top : (held : Held) (top id : ℕ) (lits hints : List ℤ) → add_fault held top id lits hints ≡ None → top < id
above_top held top id lits hints h = by_test (leb id top) refl where
  some_none : {X : Type 0} (x : X) → Some x ≡ None → ⊥
  some_none x e = cc

  by_test : (b : Bool) → leb id top ≡ b → top < id
  by_test true e = absurd (some_none (fault.IdOrder id)
      (sym (ap (λ b. cond b (Some (fault.IdOrder id))
      (cond (list_any is_negative hints) (Some (fault.Rat id)) (walk held id (negs lits) hints))) e) ∙ h))
  by_test false e = grind (arith, nat_tests, e)
