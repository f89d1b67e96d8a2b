-- What the search keeps, from one round to the next.
use Rattle.std.proofs.Common.{◌≡◌, ℕ, suc, ◌+◌, ◌^◌, ◌<◌, ◌≤◌, Bool, true, false, not, cond, List, [], ◌∷◌, ◌++◌, ℤ}
use Rattle.std.proofs.Common.{neg_ℤ, length, refl, ap, sym, subst, ◌∙◌, length-append, arith}
use Rattle.std.specs.List.{list_any, list_all}
use Rattle.std.proofs.lemmas.List.{append-nil}
use Rattle.std.proofs.lemmas.List.Elements.{filter-append}
use Rattle.std.proofs.lemmas.Bool.{and_from, and_parts, or_parts, not_from_false, false_from_ne_true}
use Rattle.cnf_form.specs.Cnf.{IsLiteral, AreLiterals}
use Rattle.lrat_check.specs.declared.step.Step.{Step}
use Rattle.lrat_check.specs.declared.step.Step.TheVariants.{Add}
use Rattle.lrat_check.specs.Sets.{is_false, same_set}
use Rattle.lrat_check.specs.Steps.{is_empty, judged, Refutes, Valid}
use Rattle.lrat_check.specs.Resolved.{Resolved, derived_from, derived, consistent}
use Rattle.lrat_check.specs.Texts.{AreShort, IsShort}
use Rattle.sat_trail.specs.declared.trail.Entry.{Entry}
use Rattle.sat_trail.specs.Trail.{Entries, lits, Stands, Stand}
use Rattle.sat_trail.specs.Clauses.{AllFalse}
use Rattle.sat_learn.specs.Analysis.{Derives}
use Rattle.sat_learn.specs.Learning.{Learns}
use Rattle.sat_search.specs.Added.{AreAdded}
use Rattle.sat_search.specs.Ledger.{State as Ledger, by_ids, Tells, Adds}
use Rattle.sat_search.specs.Found.{EndsEmpty, nonempty}
use Rattle.sat_search.specs.Searching.{Searching}
use Rattle.sat_propagate.proofs.Consistent.{no_pair}
use Rattle.sat_learn.proofs.News.{all_from, is_resolvent, is_new}
use Rattle.sat_learn.proofs.Shortens.{traced}
use Rattle.sat_search.proofs.Adding.{clauses_more, refutes, is_fresh, new_told, old_told, short_step}
use Rattle.sat_search.proofs.Literals.{literal_at, literals_from, neg_literal}
use Rattle.sat_search.proofs.Counts.{fewer_clauses, apart_more}

all_last : (p : List ℤ → Bool) (cs : List (List ℤ)) (r : List ℤ) → list_all p cs ≡ true → p r ≡ true
    → list_all p (cs ++ r ∷ []) ≡ true
all_last p [] r h k = and_from (p r) true k refl
all_last p (d ∷ ds) r h k = let q = and_parts (p d) (list_all p ds) h
    in and_from (p d) (list_all p (ds ++ r ∷ [])) q.0 (all_last p ds r q.1 k)

none_behind : (p : List ℤ → Bool) (a b : List (List ℤ)) → list_any p (a ++ b) ≡ false → list_any p b ≡ false
none_behind p [] b h = h
none_behind p (c ∷ a) b h = none_behind p a b (or_parts (p c) (list_any p (a ++ b)) h).1

pub begins : (vars budget : ℕ) (formula : List (List ℤ)) (book : Ledger) → Tells vars formula [] book
    → Searching vars budget formula book [] budget
begins vars budget formula book t = record {
  stand = tt;
  known = tt;
  learnt = [];
  told = t;
  learnt_names = tt;
  counted = omega arith;
  some = refl;
  pairless = refl;
  apart = tt;
}

module _ (vars budget : ℕ) (formula : List (List ℤ)) (book : Ledger) (t : Entries) (left : ℕ)
    (s : Searching vars budget formula book t left) where
  -- the literals of a clause that is false on the trail name variables, and no two of them are complements
  pub false_literals : (r : List ℤ) → AllFalse (lits t) r → AreLiterals vars r
  false_literals r f =
      literals_from vars r (λ x h. neg_literal vars x (literal_at vars (lits t) (neg_ℤ x) s.known (f x h)))

  false_consistent : (r : List ℤ) → AllFalse (lits t) r → consistent r ≡ true
  false_consistent r f = all_from (λ x. not (is_false r x)) r
      (λ x h. not_from_false (is_false r x) (false_from_ne_true (is_false r x) (λ k.
      no_pair book.clauses t s.stand (neg_ℤ x) (f x h) (f (neg_ℤ x) k))))

  module _ (u : Entries) (now : Ledger) (r hints : List ℤ) (w : Learns book.clauses r hints t u) (b : Bool)
      (a : Adds book now r hints b) where
    names : AreLiterals vars r
    names = false_literals r w.false_there

    pairless : consistent r ≡ true
    pairless = false_consistent r w.false_there

    fresh : list_any (same_set r) book.clauses ≡ false
    fresh = is_new book.clauses r w.strengthens

    stand_now : Stand now.clauses u
    stand_now = subst (λ z. Stand z u) (sym a.clauses_are) w.stand

    known_now : AreLiterals vars (lits u)
    known_now = literals_from vars (lits u) (λ x h. literal_at vars (lits t) x s.known (w.part x h))

    -- a learnt clause that is new joins the others, and the count of what is left falls
    pub new_on : b ≡ true → (rest : ℕ) → left ≡ rest + 1 → Searching vars budget formula now u rest
    new_on e rest n =
        let f = is_fresh vars formula s.learnt book now r hints b s.told a w.resolvent w.strengthens w.some fresh names
        pairless e in
        record {
          stand = stand_now;
          known = known_now;
          learnt = s.learnt ++ r ∷ [];
          told = new_told vars formula s.learnt book now r hints b s.told a w.resolvent w.strengthens w.some fresh names
              pairless e;
          learnt_names = clauses_more vars s.learnt r s.learnt_names names;
          counted = (let l = length-append s.learnt (r ∷ []) in let c = s.counted in omega (arith, l, c, n));
          some = all_last (λ c. not (is_empty c)) s.learnt r s.some (not_from_false (is_empty r) w.some);
          pairless = all_last consistent s.learnt r s.pairless pairless;
          apart = apart_more vars s.learnt r s.learnt_names names (none_behind (same_set r) formula s.learnt f) s.apart;
        }

    -- one that was dropped comes back
    pub old_on : b ≡ false → Searching vars budget formula now u left
    old_on e = record {
      stand = stand_now;
      known = known_now;
      learnt = s.learnt;
      told = old_told vars formula s.learnt book now r hints b s.told a w.resolvent w.strengthens w.some fresh names
          pairless e;
      learnt_names = s.learnt_names;
      counted = s.counted;
      some = s.some;
      pairless = s.pairless;
      apart = s.apart;
    }

  -- one more literal is true
  pub pushed_on : (e : Entry) (whole : Entries) → whole ≡ e ∷ t → IsLiteral vars e.lit → Stands book.clauses t e
      → Searching vars budget formula book whole left
  pushed_on e whole w k st =
      let Q : Entries → Type 0 = λ z. Searching vars budget formula book z left in
      subst Q (sym w) (record {
        stand = (st, s.stand);
        known = (k, s.known);
        learnt = s.learnt;
        told = s.told;
        learnt_names = s.learnt_names;
        counted = s.counted;
        some = s.some;
        pairless = s.pairless;
        apart = s.apart;
      })

  -- the trail is taken back to its beginning, and what was told is told of other clauses that are held
  pub anew : (now : Ledger) → Tells vars formula s.learnt now → Searching vars budget formula now [] left
  anew now h = record {
    stand = tt;
    known = tt;
    learnt = s.learnt;
    told = h;
    learnt_names = s.learnt_names;
    counted = s.counted;
    some = s.some;
    pairless = s.pairless;
    apart = s.apart;
  }

  pub valid_now : Valid formula book.steps
  valid_now = ap (judged formula) (sym (append-nil book.steps)) ∙ s.told.tells []

  pub resolved_now : Resolved formula book.steps
  resolved_now = subst (Resolved formula) (append-nil book.steps) (s.told.resolved [] tt)

  pub added_now : AreAdded vars book.steps
  added_now = subst (AreAdded vars) (append-nil book.steps) (s.told.added [] tt)

  pub short_now : vars < 10 ^ 18 → AreShort book.steps
  short_now w = subst AreShort (append-nil book.steps) (s.told.short w [] tt)

  pub derived_now : length (derived formula book.steps) + left ≡ budget
  derived_now =
      ap (λ z. length z + left) (ap (derived_from formula) (sym (append-nil book.steps)) ∙ s.told.derives []
      ∙ append-nil s.learnt) ∙ s.counted

  pub bound_now : left ≡ 0 → budget < 3 ^ vars
  bound_now e = let h = fewer_clauses vars s.learnt s.learnt_names s.some s.pairless s.apart in let c = s.counted
      in omega (arith, h, c, e)

  module _ (u : Entries) (r hints : List ℤ) (d : Derives book.clauses u r hints) (empty : r ≡ []) (now : Ledger)
      (b : Bool) (a : Adds book now r hints b) where
    abbrev last : List Step
    last = Add (book.top + 1) [] (by_ids book.ids hints) ∷ []

    steps_are : now.steps ≡ book.steps ++ last
    steps_are = a.steps_are
        ∙ ap (λ z. book.steps ++ Add (book.top + 1) z (by_ids book.ids hints) ∷ []) empty

    -- the empty clause refutes
    pub refutes_now : Refutes formula now.steps (book.top + 1)
    refutes_now =
        refutes vars formula s.learnt book now r hints b s.told a
        (is_resolvent book.clauses u r hints (traced book.clauses u r hints d)) (ap is_empty empty)

    pub refuted_last : EndsEmpty now.steps (book.top + 1)
    refuted_last = (book.steps, by_ids book.ids hints, steps_are)

    short_last : vars < 10 ^ 18 → IsShort (Add (book.top + 1) [] (by_ids book.ids hints))
    short_last w =
        subst (λ z. IsShort (Add (book.top + 1) z (by_ids book.ids hints))) empty
        (short_step vars formula s.learnt book now r hints b s.told a
        (is_resolvent book.clauses u r hints (traced book.clauses u r hints d)) (subst (AreLiterals vars) (sym empty) tt)
        w)

    pub refuted_short : vars < 10 ^ 18 → AreShort now.steps
    refuted_short w = subst AreShort (sym steps_are) (s.told.short w last (short_last w, tt))

    none_left : (b : Bool) → nonempty (cond b [] ([] ∷ [])) ≡ []
    none_left true = refl
    none_left false = refl

    nonempty_is : nonempty (derived formula now.steps) ≡ nonempty s.learnt
    nonempty_is =
        ap (λ z. nonempty (derived_from formula z)) steps_are
        ∙ ap nonempty (s.told.derives last)
        ∙ filter-append (λ c. not (is_empty c)) s.learnt (derived_from (formula ++ s.learnt) last)
        ∙ ap (λ z. nonempty s.learnt ++ z) (none_left (list_any (same_set []) (formula ++ s.learnt)))
        ∙ append-nil (nonempty s.learnt)

    length_cond : (b : Bool) (c : List ℤ) (ds : List (List ℤ)) (n : ℕ) → length ds ≤ n
        → length (cond b (c ∷ ds) ds) ≤ suc n
    length_cond true c ds n h = omega (arith, h)
    length_cond false c ds n h = omega (arith, h)

    no_more : (ds : List (List ℤ)) → length (nonempty ds) ≤ length ds
    no_more [] = omega arith
    no_more (c ∷ ds) = length_cond (not (is_empty c)) c (nonempty ds) (length ds) (no_more ds)

    pub fewer_now : 0 < left → length (nonempty (derived formula now.steps)) < budget
    fewer_now h =
        let m = no_more s.learnt in let c = s.counted in let e = ap length nonempty_is in omega (arith, m, c, e, h)

    pub refuted_added : AreAdded vars now.steps
    refuted_added = subst (AreAdded vars) (sym steps_are) (s.told.added last (tt, refl, tt))
