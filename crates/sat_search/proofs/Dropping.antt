-- A learnt clause is let go, by a step that deletes it, and the last clause goes to its place.
use Rattle.std.proofs.Common.{◌≡◌, ℕ, zero, suc, ◌+◌, ◌<◌, ◌≤◌, true, cond, eqb, ◌||◌, List, [], ◌∷◌, ◌++◌}
use Rattle.std.proofs.Common.{ℤ, pos, Some, None, refl, ap, sym, subst, ◌∙◌, ◌⊎◌, inl, inr, append_assoc}
use Rattle.std.proofs.Common.{arith}
use Rattle.std.specs.Prelude.{slice_get, is_some, Ok, Err}
use Rattle.std.specs.List.{list_any}
use Rattle.std.proofs.lemmas.Bool.{cases_eq, or_cases, or_left, or_right, cond-true, cond-false, eq-eqb, ne_eqb}
use Rattle.std.proofs.lemmas.Option.{slice_get_within}
use Rattle.cnf_form.specs.Cnf.{AreLiterals, AreClauses}
use Rattle.lrat_check.specs.declared.step.Step.{Step}
use Rattle.lrat_check.specs.declared.step.Step.TheVariants.{Delete}
use Rattle.lrat_check.specs.declared.step.StepFault.TheVariants as fault
use Rattle.lrat_check.specs.Sets.{same_set}
use Rattle.lrat_check.specs.Steps.{Held, without_clause, deleted, judged}
use Rattle.lrat_check.specs.Resolved.{Resolved, derived_from}
use Rattle.lrat_check.specs.Texts.{AreShort, IsShort}
use Rattle.lrat_check.proofs.Sound.{verdict_deletes}
use Rattle.sat_trail.specs.Known.{Clauses, contains}
use Rattle.sat_search.specs.Added.{AreAdded}
use Rattle.sat_search.specs.Ledger.{State, IsAmong, HoldsBy, Tells, StaysTold}
use Rattle.sat_search.proofs.Places.{none_some, some_is, TakesOut, origin, target, not_from, one_from, target_other}
use Rattle.sat_search.proofs.Places.{within, back, forth}

pub clause_at : (vars : ℕ) (cs : List (List ℤ)) (place : ℕ) (c : List ℤ) → AreClauses vars cs
    → slice_get cs place ≡ Some c → AreLiterals vars c
clause_at vars [] place c h e = absurd (none_some c e)
clause_at vars (d ∷ ds) zero c h e = subst (AreLiterals vars) (some_is d c e) h.0
clause_at vars (d ∷ ds) (suc place) c h e = clause_at vars ds place c h.1 e

clauses_from : (vars : ℕ) (cs : List (List ℤ))
    → ((place : ℕ) (c : List ℤ) → slice_get cs place ≡ Some c → AreLiterals vars c) → AreClauses vars cs
clauses_from vars [] h = tt
clauses_from vars (c ∷ cs) h = (h zero c refl, clauses_from vars cs (λ place d e. h (suc place) d e))

-- the clause at the place goes, with its id
module _ (held : Held) (ids now_ids : List ℕ) (clauses now_clauses : List (List ℤ)) (b : HoldsBy held ids clauses)
    (p n : ℕ) (w : p < n + 1) (x : TakesOut p n ids now_ids) (y : TakesOut p n clauses now_clauses) (i : ℕ)
    (there : slice_get ids p ≡ Some i) where
  gone_here : (id : ℕ) → i ≡ id → without_clause held i id ≡ None
  gone_here id e = cond-true (eqb i id) None (held id) (eq-eqb i id e)

  stays_here : (id : ℕ) → (i ≡ id → ⊥) → without_clause held i id ≡ held id
  stays_here id e = cond-false (eqb i id) None (held id) (ne_eqb i id e)

  -- no other place has its id
  other_id : (k id : ℕ) → slice_get ids k ≡ Some id → (k ≡ p → ⊥) → i ≡ id → ⊥
  other_id k id e d q = d (b.apart k p id e (there ∙ ap Some q))

  other_place : (k id : ℕ) → slice_get ids k ≡ Some id → (i ≡ id → ⊥) → k ≡ p → ⊥
  other_place k id e d q =
      let P : ℕ → Type 0 = λ z. slice_get ids z ≡ Some id in
      d (some_is i id (sym there ∙ subst P q e))

  at_left : (place id : ℕ) (c : List ℤ) → slice_get now_ids place ≡ Some id → slice_get now_clauses place ≡ Some c
      → without_clause held i id ≡ Some c
  at_left place id c e f =
      let k = back p n ids now_ids x place id e in
      let l = back p n clauses now_clauses y place c f in
      let h = within p n ids now_ids x place id e in
      stays_here id (other_id (origin p n place) id k (not_from p n place h)) ∙ b.at (origin p n place) id c k l

  of_left : (id : ℕ) (c : List ℤ) → without_clause held i id ≡ Some c → (place : ℕ)
      × (slice_get now_ids place ≡ Some id) × (slice_get now_clauses place ≡ Some c)
  of_left id c e = elim (cases_eq i id) [
    | inl q ↦ absurd (none_some c (sym (gone_here id q) ∙ e))
    | inr q ↦
        let o = b.of id c (sym (stays_here id q) ∙ e) in
        let d = other_place o.0 id o.1 q in
        (target p n o.0, forth p n ids now_ids x o.0 id d w o.1, forth p n clauses now_clauses y o.0 c d w o.2)
  ]

  apart_left : (j k id : ℕ) → slice_get now_ids j ≡ Some id → slice_get now_ids k ≡ Some id → j ≡ k
  apart_left j k id e f =
      one_from p n j k (within p n ids now_ids x j id e) (within p n ids now_ids x k id f)
      (b.apart (origin p n j) (origin p n k) id (back p n ids now_ids x j id e) (back p n ids now_ids x k id f))

  holds_left : HoldsBy (without_clause held i) now_ids now_clauses
  holds_left = record { many = x.left ∙ sym y.left; at = at_left; of = of_left; apart = apart_left }

names_left : (vars p n : ℕ) (clauses now : List (List ℤ)) → TakesOut p n clauses now → AreClauses vars clauses
    → AreClauses vars now
names_left vars p n clauses now y h =
    clauses_from vars now (λ k c e. clause_at vars clauses (origin p n k) c h (back p n clauses now y k c e))

delete_at : (held : Held) (top i : ℕ) (c : List ℤ) → held i ≡ Some c
    → deleted held top (i ∷ []) ≡ Ok (without_clause held i)
delete_at held top i c e =
    ap (λ o. cond (is_some o) (deleted (without_clause held i) top []) (Err (fault.NoClause top (pos i)))) e

module _ (s : State) (now_clauses : List (List ℤ)) (now_ids : List ℕ) (dropped : Clauses) (p n i : ℕ)
    (gone : List ℤ) (w : p < n + 1) (after : s.first ≤ p) (x : TakesOut p n s.ids now_ids)
    (y : TakesOut p n s.clauses now_clauses) (there : slice_get s.ids p ≡ Some i)
    (here : slice_get s.clauses p ≡ Some gone)
    (came : (c : List ℤ) → contains dropped c ≡ (same_set c gone || contains s.dropped c)) where
  abbrev next : State
  next = record {
    clauses = now_clauses;
    ids = now_ids;
    first = s.first;
    top = s.top;
    steps = s.steps ++ Delete s.top (i ∷ []) ∷ [];
    dropped = dropped;
  }

  module _ (vars : ℕ) (formula learnt : List (List ℤ)) (t : Tells vars formula learnt s) where
    begins_left : (place : ℕ) (c : List ℤ) → slice_get formula place ≡ Some c → slice_get now_clauses place ≡ Some c
    begins_left place c e =
        let h = slice_get_within formula place c e in
        let f = t.first_is in
        let P : ℕ → Type 0 = λ z. slice_get now_clauses z ≡ Some c in
        subst P (target_other p n place (λ q. omega (arith, q, h, f, after, w)))
        (forth p n s.clauses now_clauses y place c (λ q. omega (arith, q, h, f, after)) w (t.begins place c e))

    among_left : (c : List ℤ) (place : ℕ) (other : List ℤ) → slice_get s.clauses place ≡ Some other
        → same_set c other ≡ true → IsAmong now_clauses c ⊎ (contains dropped c ≡ true)
    among_left c place other e m = elim (cases_eq place p) [
      | inl q ↦
          let P : ℕ → Type 0 = λ z. slice_get s.clauses z ≡ Some other in
          let same : other ≡ gone = some_is other gone (sym (subst P q e) ∙ here) in
          inr (came c ∙ or_left (same_set c gone) (contains s.dropped c) (ap (same_set c) (sym same) ∙ m))
      | inr q ↦ inl (target p n place, other, forth p n s.clauses now_clauses y place other q w e, m)
    ]

    seen_left : (c : List ℤ) → list_any (same_set c) (formula ++ learnt) ≡ true
        → IsAmong now_clauses c ⊎ (contains dropped c ≡ true)
    seen_left c h = elim (t.seen c h) [
      | inl a ↦ among_left c a.0 a.1 a.2 a.3
      | inr k ↦ inr (came c ∙ or_right (same_set c gone) (contains s.dropped c) k)
    ]

    known_left : (c : List ℤ) → IsAmong now_clauses c → list_any (same_set c) (formula ++ learnt) ≡ true
    known_left c a =
        t.known c (origin p n a.0, a.1, back p n s.clauses now_clauses y a.0 a.1 a.2, a.3)

    gone_left : (c : List ℤ) → contains dropped c ≡ true → list_any (same_set c) (formula ++ learnt) ≡ true
    gone_left c h = elim (or_cases (same_set c gone) (contains s.dropped c) (sym (came c) ∙ h)) [
      | inl m ↦ t.known c (p, gone, here, m)
      | inr k ↦ t.gone c k
    ]

    short_deletion : IsShort (Delete s.top (i ∷ []))
    short_deletion =
        let some = t.some_ids p i there in
        let most = t.up_to p i there in
        (t.most, ((some, omega (arith, most, t.most)), tt))

    told_left : Tells vars formula learnt next
    told_left = record {
      small = t.small;
      names = names_left vars p n s.clauses now_clauses y t.names;
      first_is = t.first_is;
      begins = begins_left;
      few = (let f = t.few in let l = y.left in let m = y.many in omega (arith, f, l, m));
      most = t.most;
      some_ids = λ place id e. t.some_ids (origin p n place) id (back p n s.ids now_ids x place id e);
      up_to = λ place id e. t.up_to (origin p n place) id (back p n s.ids now_ids x place id e);
      held = without_clause t.held i;
      holds = holds_left t.held s.ids now_ids s.clauses now_clauses t.holds p n w x y i there;
      tells = λ more.
          ap (judged formula) (append_assoc s.steps (Delete s.top (i ∷ []) ∷ []) more)
          ∙ t.tells (Delete s.top (i ∷ []) ∷ more)
          ∙ verdict_deletes t.held s.top s.top (i ∷ []) (without_clause t.held i) more
          (delete_at t.held s.top i gone (t.holds.at p i gone there here));
      resolved = λ more h.
          subst (Resolved formula) (sym (append_assoc s.steps (Delete s.top (i ∷ []) ∷ []) more))
          (t.resolved (Delete s.top (i ∷ []) ∷ more) h);
      derives = λ more.
          ap (derived_from formula) (append_assoc s.steps (Delete s.top (i ∷ []) ∷ []) more)
          ∙ t.derives (Delete s.top (i ∷ []) ∷ more);
      added = λ more h.
          subst (AreAdded vars) (sym (append_assoc s.steps (Delete s.top (i ∷ []) ∷ []) more))
          (t.added (Delete s.top (i ∷ []) ∷ more) h);
      short = λ v more h.
          subst AreShort (sym (append_assoc s.steps (Delete s.top (i ∷ []) ∷ []) more))
          (t.short v (Delete s.top (i ∷ []) ∷ more) (short_deletion, h));
      seen = seen_left;
      known = known_left;
      gone = gone_left;
    }

  pub stays_told : (steps : List Step) → steps ≡ s.steps ++ Delete s.top (i ∷ []) ∷ [] → StaysTold s (record {
    clauses = now_clauses;
    ids = now_ids;
    first = s.first;
    top = s.top;
    steps = steps;
    dropped = dropped;
  })
  stays_told steps e vars formula learnt t =
      let P : List Step → Type 0 = λ z. Tells vars formula learnt (record {
        clauses = now_clauses;
        ids = now_ids;
        first = s.first;
        top = s.top;
        steps = z;
        dropped = dropped;
      }) in
      subst P (sym e) (told_left vars formula learnt t)
