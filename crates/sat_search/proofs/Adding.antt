-- A clause comes in, with its step.
use Rattle.std.proofs.Common.{◌≡◌, ℕ, ◌+◌, ◌^◌, ◌<◌, ◌≤◌, Bool, true, false, not, eqb, List, [], ◌∷◌}
use Rattle.std.proofs.Common.{◌++◌, ℤ, length, Some, None, refl, ap, sym, subst, ◌∙◌, ◌⊎◌, inl, inr, append_assoc}
use Rattle.std.proofs.Common.{arith}
use Rattle.std.specs.Prelude.{slice_get}
use Rattle.std.specs.List.{list_any}
use Rattle.std.proofs.lemmas.Bool.{false≢true, not-false, cases_Bool, cases_eq, or_cases, or_left, or_right, and_parts}
use Rattle.std.proofs.lemmas.Bool.{and_from, cond-true, cond-false, eq-eqb, ne_eqb, not-true, not_from_false}
use Rattle.std.proofs.lemmas.Bool.{false_from_ne_true}
use Rattle.std.proofs.lemmas.List.{length_push}
use Rattle.std.proofs.lemmas.List.Folds.{list_any-append}
use Rattle.std.proofs.lemmas.Option.{slice_get_within}
use Rattle.cnf_form.specs.Cnf.{AreLiterals, AreClauses}
use Rattle.lrat_check.specs.declared.step.Step.{Step}
use Rattle.lrat_check.specs.declared.step.Step.TheVariants.{Add}
use Rattle.lrat_check.specs.Sets.{same_set, negs}
use Rattle.lrat_check.specs.Steps.{Held, numbered, with_clause, is_empty, add_fault, judged, Refutes}
use Rattle.lrat_check.specs.Resolved.{IsResolvent, Strengthens, Resolved, derived_from, consistent}
use Rattle.lrat_check.specs.Texts.{AreShort, IsShort}
use Rattle.lrat_check.proofs.Sound.{verdict_adds, verdict_empty}
use Rattle.sat_trail.specs.Known.{contains}
use Rattle.sat_trail.proofs.Same.{contains_same}
use Rattle.sat_search.specs.Added.{AreAdded}
use Rattle.sat_search.specs.Ledger.{State, by_ids, IsAmong, HoldsBy, Tells, Adds}
use Rattle.sat_search.proofs.Named.{never_negative, resolvent_by_ids, strengthens_by_ids}
use Rattle.sat_search.proofs.Places.{push_cases, push_left, push_last}
use Rattle.sat_search.proofs.Short.{hints_short, literals_short}
use Rattle.sat_search.proofs.Starting.{among_any}
use Rattle.sat_search.proofs.Walks.{walks_to, accepted}

pub clauses_more : (vars : ℕ) (cs : List (List ℤ)) (r : List ℤ) → AreClauses vars cs → AreLiterals vars r
    → AreClauses vars (cs ++ r ∷ [])
clauses_more vars [] r h k = (k, tt)
clauses_more vars (c ∷ cs) r h k = (h.0, clauses_more vars cs r h.1 k)

any_left : (p : List ℤ → Bool) (a b : List (List ℤ)) → list_any p a ≡ true → list_any p (a ++ b) ≡ true
any_left p a b h = list_any-append p a b ∙ or_left (list_any p a) (list_any p b) h

any_last : (p : List ℤ → Bool) (a : List (List ℤ)) (r : List ℤ) → p r ≡ true → list_any p (a ++ r ∷ []) ≡ true
any_last p a r h = list_any-append p a (r ∷ []) ∙ or_right (list_any p a) (list_any p (r ∷ [])) (or_left (p r) false h)

any_cases : (p : List ℤ → Bool) (a : List (List ℤ)) (r : List ℤ) → list_any p (a ++ r ∷ []) ≡ true
    → (list_any p a ≡ true) ⊎ (p r ≡ true)
any_cases p a r h = elim (or_cases (list_any p a) (list_any p (r ∷ [])) (sym (list_any-append p a (r ∷ [])) ∙ h)) [
  | inl e ↦ inl e
  | inr e ↦ elim (or_cases (p r) false e) [ inl k ↦ inr k | inr k ↦ absurd (false≢true k) ]
]

-- a clause that comes in under an id above all others
module _ (held : Held) (ids : List ℕ) (clauses : List (List ℤ)) (b : HoldsBy held ids clauses) (top : ℕ)
    (u : (place id : ℕ) → slice_get ids place ≡ Some id → id ≤ top) (r : List ℤ) where
  new_here : (id : ℕ) → top + 1 ≡ id → with_clause held (top + 1) r id ≡ Some r
  new_here id e = cond-true (eqb (top + 1) id) (Some r) (held id) (eq-eqb (top + 1) id e)

  old_here : (id : ℕ) → (top + 1 ≡ id → ⊥) → with_clause held (top + 1) r id ≡ held id
  old_here id e = cond-false (eqb (top + 1) id) (Some r) (held id) (ne_eqb (top + 1) id e)

  many_more : length (ids ++ (top + 1) ∷ []) ≡ length (clauses ++ r ∷ [])
  many_more =
      let x = length_push ids (top + 1) in let y = length_push clauses r in let m = b.many in omega (arith, x, y, m)

  at_more : (place id : ℕ) (c : List ℤ) → slice_get (ids ++ (top + 1) ∷ []) place ≡ Some id
      → slice_get (clauses ++ r ∷ []) place ≡ Some c → with_clause held (top + 1) r id ≡ Some c
  at_more place id c e f = elim (push_cases ids (top + 1) place id e) [
    | inl g ↦ elim (push_cases clauses r place c f) [
      | inl h ↦
          let k = u place id g in
          old_here id (λ q. omega (arith, k, q)) ∙ b.at place id c g h
      | inr h ↦
          let w = slice_get_within ids place id g in
          let m = b.many in let q = h.0 in absurd (omega (arith, w, m, q))
    ]
    | inr g ↦ elim (push_cases clauses r place c f) [
      | inl h ↦
          let w = slice_get_within clauses place c h in
          let m = b.many in let q = g.0 in absurd (omega (arith, w, m, q))
      | inr h ↦ new_here id g.1 ∙ ap Some h.1
    ]
  ]

  of_more : (id : ℕ) (c : List ℤ) → with_clause held (top + 1) r id ≡ Some c → (place : ℕ)
      × (slice_get (ids ++ (top + 1) ∷ []) place ≡ Some id) × (slice_get (clauses ++ r ∷ []) place ≡ Some c)
  of_more id c e = elim (cases_eq (top + 1) id) [
    | inl q ↦ (
      length ids,
      push_last ids (top + 1) (length ids) refl ∙ ap Some q,
      push_last clauses r (length ids) b.many ∙ sym (new_here id q) ∙ e,
    )
    | inr q ↦
        let o = b.of id c (sym (old_here id q) ∙ e) in
        (o.0, push_left ids (top + 1) o.0 id o.1, push_left clauses r o.0 c o.2)
  ]

  apart_more : (j k id : ℕ) → slice_get (ids ++ (top + 1) ∷ []) j ≡ Some id
      → slice_get (ids ++ (top + 1) ∷ []) k ≡ Some id → j ≡ k
  apart_more j k id e f = elim (push_cases ids (top + 1) j id e) [
    | inl g ↦ elim (push_cases ids (top + 1) k id f) [
      | inl h ↦ b.apart j k id g h
      | inr h ↦ (let x = u j id g in let q = h.1 in absurd (omega (arith, x, q)))
    ]
    | inr g ↦ elim (push_cases ids (top + 1) k id f) [
      | inl h ↦ (let x = u k id h in let q = g.1 in absurd (omega (arith, x, q)))
      | inr h ↦ g.0 ∙ sym h.0
    ]
  ]

  up_to_more : (place id : ℕ) → slice_get (ids ++ (top + 1) ∷ []) place ≡ Some id → id ≤ top + 1
  up_to_more place id e = elim (push_cases ids (top + 1) place id e) [
    | inl g ↦ (let x = u place id g in omega (arith, x))
    | inr g ↦ (let q = g.1 in omega (arith, q))
  ]

  holds_more : HoldsBy (with_clause held (top + 1) r) (ids ++ (top + 1) ∷ []) (clauses ++ r ∷ [])
  holds_more = record { many = many_more; at = at_more; of = of_more; apart = apart_more }

some_more : (ids : List ℕ) (top : ℕ) → ((place id : ℕ) → slice_get ids place ≡ Some id → 0 < id) → (place id : ℕ)
    → slice_get (ids ++ (top + 1) ∷ []) place ≡ Some id → 0 < id
some_more ids top h place id e = elim (push_cases ids (top + 1) place id e) [
  | inl g ↦ h place id g
  | inr g ↦ (let q = g.1 in omega (arith, q))
]

among_more : (clauses : List (List ℤ)) (r c : List ℤ) → IsAmong clauses c → IsAmong (clauses ++ r ∷ []) c
among_more clauses r c a = (a.0, a.1, push_left clauses r a.0 a.1 a.2, a.3)

among_last : (clauses : List (List ℤ)) (r c : List ℤ) → same_set c r ≡ true → IsAmong (clauses ++ r ∷ []) c
among_last clauses r c e = (length clauses, r, push_last clauses r (length clauses) refl, e)

among_cases : (clauses : List (List ℤ)) (r c : List ℤ) → IsAmong (clauses ++ r ∷ []) c
    → IsAmong clauses c ⊎ (same_set c r ≡ true)
among_cases clauses r c a = elim (push_cases clauses r a.0 a.1 a.2) [
  | inl h ↦ inl (a.0, a.1, h, a.3)
  | inr h ↦ inr (ap (same_set c) h.1 ∙ a.3)
]

module _ (vars : ℕ) (formula learnt : List (List ℤ)) (s now : State) (lits hints : List ℤ) (is_new : Bool)
    (t : Tells vars formula learnt s) (a : Adds s now lits hints is_new) where
  abbrev named : List ℤ
  named = by_ids s.ids hints

  module _ (v : IsResolvent (numbered s.clauses) lits hints) where
    named_resolvent : IsResolvent t.held lits named
    named_resolvent = resolvent_by_ids t.held s.ids s.clauses t.holds lits hints v

    step_accepted : add_fault t.held s.top (s.top + 1) lits named ≡ None
    step_accepted =
        accepted t.held s.top (s.top + 1) lits named (omega arith) (never_negative s.ids hints)
        (walks_to t.held (s.top + 1) (negs lits) named named_resolvent.0 named_resolvent.1)

    -- the step has short numbers
    pub short_step : AreLiterals vars lits → vars < 10 ^ 18 → IsShort (Add (s.top + 1) lits named)
    short_step n w = (
      a.most,
      literals_short vars lits w n,
      hints_short t.held s.ids s.clauses t.holds s.top t.up_to t.some_ids t.most (negs lits) named named_resolvent.0
          named_resolvent.1,
    )

    -- an empty clause refutes
    pub refutes : is_empty lits ≡ true → Refutes formula now.steps (s.top + 1)
    refutes e =
        ap (judged formula) a.steps_are ∙ t.tells (Add (s.top + 1) lits named ∷ [])
        ∙ verdict_empty t.held s.top (s.top + 1) lits named [] step_accepted e

    module _ (g : Strengthens (numbered s.clauses) lits) (some : is_empty lits ≡ false)
        (fresh : list_any (same_set lits) s.clauses ≡ false) (n : AreLiterals vars lits)
        (c : consistent lits ≡ true) where
      -- the clauses that were learnt, if it is among them or not
      module _ (longer : List (List ℤ))
          (seen_now : (d : List ℤ) → list_any (same_set d) (formula ++ longer) ≡ true
          → (list_any (same_set d) (formula ++ learnt) ≡ true) ⊎ (same_set d lits ≡ true))
          (known_now : (d : List ℤ) → list_any (same_set d) (formula ++ learnt) ≡ true
          → list_any (same_set d) (formula ++ longer) ≡ true)
          (known_new : (d : List ℤ) → same_set d lits ≡ true → list_any (same_set d) (formula ++ longer) ≡ true)
          (derives_now : (more : List Step) → learnt ++ derived_from (formula ++ learnt)
          (Add (s.top + 1) lits named ∷ more) ≡ longer ++ derived_from (formula ++ longer) more) where
        stays_dropped : (d : List ℤ) → same_set d lits ≡ false → contains s.dropped d ≡ true
            → contains now.dropped d ≡ true
        stays_dropped d e h =
            a.dropped_are d ∙ and_from (not (same_set d lits)) (contains s.dropped d)
            (not_from_false (same_set d lits) e) h

        seen_more : (d : List ℤ) → list_any (same_set d) (formula ++ longer) ≡ true
            → IsAmong (s.clauses ++ lits ∷ []) d ⊎ (contains now.dropped d ≡ true)
        seen_more d h = elim (cases_Bool (same_set d lits)) [
          | inl e ↦ inl (among_last s.clauses lits d e)
          | inr e ↦ elim (seen_now d h) [
            | inl k ↦ elim (t.seen d k) [
              | inl m ↦ inl (among_more s.clauses lits d m)
              | inr m ↦ inr (stays_dropped d e m)
            ]
            | inr k ↦ absurd (false≢true (sym e ∙ k))
          ]
        ]

        known_more : (d : List ℤ) → IsAmong (s.clauses ++ lits ∷ []) d
            → list_any (same_set d) (formula ++ longer) ≡ true
        known_more d m = elim (among_cases s.clauses lits d m) [
          | inl k ↦ known_now d (t.known d k)
          | inr k ↦ known_new d k
        ]

        gone_more : (d : List ℤ) → contains now.dropped d ≡ true → list_any (same_set d) (formula ++ longer) ≡ true
        gone_more d h = known_now d (t.gone d
            (and_parts (not (same_set d lits)) (contains s.dropped d) (sym (a.dropped_are d) ∙ h)).1)

        abbrev next : State
        next = record {
          clauses = s.clauses ++ lits ∷ [];
          ids = s.ids ++ (s.top + 1) ∷ [];
          first = now.first;
          top = s.top + 1;
          steps = s.steps ++ Add (s.top + 1) lits named ∷ [];
          dropped = now.dropped;
        }

        next_told : Tells vars formula longer next
        next_told = record {
          small = t.small;
          names = clauses_more vars s.clauses lits t.names n;
          first_is = a.first_is ∙ t.first_is;
          begins = λ place d e. push_left s.clauses lits place d (t.begins place d e);
          few = (let f = t.few in let e = length_push s.clauses lits in omega (arith, f, e));
          most = a.most;
          some_ids = some_more s.ids s.top t.some_ids;
          up_to = up_to_more t.held s.ids s.clauses t.holds s.top t.up_to lits;
          held = with_clause t.held (s.top + 1) lits;
          holds = holds_more t.held s.ids s.clauses t.holds s.top t.up_to lits;
          tells = λ more.
              ap (judged formula) (append_assoc s.steps (Add (s.top + 1) lits named ∷ []) more)
              ∙ t.tells (Add (s.top + 1) lits named ∷ more)
              ∙ verdict_adds t.held s.top (s.top + 1) lits named more step_accepted some;
          resolved = λ more h.
              subst (Resolved formula) (sym (append_assoc s.steps (Add (s.top + 1) lits named ∷ []) more))
              (t.resolved (Add (s.top + 1) lits named ∷ more)
              (named_resolvent, strengthens_by_ids t.held s.ids s.clauses t.holds lits g, h));
          derives = λ more.
              ap (derived_from formula) (append_assoc s.steps (Add (s.top + 1) lits named ∷ []) more)
              ∙ t.derives (Add (s.top + 1) lits named ∷ more) ∙ derives_now more;
          added = λ more h.
              subst (AreAdded vars) (sym (append_assoc s.steps (Add (s.top + 1) lits named ∷ []) more))
              (t.added (Add (s.top + 1) lits named ∷ more) (n, c, h));
          short = λ w more h.
              subst AreShort (sym (append_assoc s.steps (Add (s.top + 1) lits named ∷ []) more))
              (t.short w (Add (s.top + 1) lits named ∷ more) (short_step n w, h));
          seen = seen_more;
          known = known_more;
          gone = gone_more;
        }

        now_told : Tells vars formula longer now
        now_told =
            let P : List (List ℤ) → List ℕ → ℕ → List Step → Type 0 =
            λ x y z w. Tells vars formula longer (record {
              clauses = x;
              ids = y;
              first = now.first;
              top = z;
              steps = w;
              dropped = now.dropped;
            }) in
            subst (λ x. P x now.ids now.top now.steps) (sym a.clauses_are)
            (subst (λ y. P (s.clauses ++ lits ∷ []) y now.top now.steps) (sym a.ids_are)
            (subst (λ z. P (s.clauses ++ lits ∷ []) (s.ids ++ (s.top + 1) ∷ []) z now.steps) (sym a.top_is)
            (subst (λ w. P (s.clauses ++ lits ∷ []) (s.ids ++ (s.top + 1) ∷ []) (s.top + 1) w) (sym a.steps_are)
            next_told)))

      -- it is new exactly where it wasn't dropped before
      pub is_fresh : is_new ≡ true → list_any (same_set lits) (formula ++ learnt) ≡ false
      is_fresh e = false_from_ne_true (list_any (same_set lits) (formula ++ learnt)) (λ h.
          elim (t.seen lits h) [
            | inl m ↦ false≢true (sym fresh ∙ among_any s.clauses lits m)
            | inr m ↦ false≢true (sym (not-true (contains s.dropped lits) (sym a.is_new_where ∙ e)) ∙ m)
          ])

      was_dropped : is_new ≡ false → contains s.dropped lits ≡ true
      was_dropped e = not-false (contains s.dropped lits) (sym a.is_new_where ∙ e)

      pub new_told : is_new ≡ true → Tells vars formula (learnt ++ lits ∷ []) now
      new_told e =
          let same : formula ++ (learnt ++ lits ∷ []) ≡ (formula ++ learnt) ++ lits ∷ [] =
          sym (append_assoc formula learnt (lits ∷ [])) in
          now_told (learnt ++ lits ∷ [])
          (λ d h. any_cases (same_set d) (formula ++ learnt) lits (ap (list_any (same_set d)) (sym same) ∙ h))
          (λ d h. ap (list_any (same_set d)) same ∙ any_left (same_set d) (formula ++ learnt) (lits ∷ []) h)
          (λ d h. ap (list_any (same_set d)) same ∙ any_last (same_set d) (formula ++ learnt) lits h)
          (λ more.
          ap (λ z. learnt ++ z) (cond-false (list_any (same_set lits) (formula ++ learnt))
          (derived_from (formula ++ learnt) more) (lits ∷ derived_from ((formula ++ learnt) ++ lits ∷ []) more)
          (is_fresh e))
          ∙ sym (append_assoc learnt (lits ∷ []) (derived_from ((formula ++ learnt) ++ lits ∷ []) more))
          ∙ ap (λ z. (learnt ++ lits ∷ []) ++ derived_from z more) (sym same))

      pub old_told : is_new ≡ false → Tells vars formula learnt now
      old_told e =
          now_told learnt (λ d h. inl h) (λ d h. h)
          (λ d h. t.gone d (contains_same s.dropped d lits h ∙ was_dropped e))
          (λ more.
          ap (λ z. learnt ++ z) (cond-true (list_any (same_set lits) (formula ++ learnt))
          (derived_from (formula ++ learnt) more) (lits ∷ derived_from ((formula ++ learnt) ++ lits ∷ []) more)
          (t.gone lits (was_dropped e))))
