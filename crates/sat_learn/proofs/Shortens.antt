-- A literal that the others of a learnt clause imply is left out: the clause stays the resolvent of its hints.
use Rattle.std.proofs.Common.{◌≡◌, ℕ, ◌+◌, Bool, true, false, not, ◌&&◌, ◌||◌, List, [], ◌∷◌, ◌++◌, ℤ, pos, neg_ℤ}
use Rattle.std.proofs.Common.{Some, reverse, refl, ap, sym, subst, ◌∙◌, inl, inr}
use Rattle.std.specs.Prelude.{slice_get}
use Rattle.std.specs.List.{list_any}
use Rattle.std.specs.Ordering.{int_eq}
use Rattle.std.proofs.lemmas.Bool.{false≢true, true≢false, cases_Bool, and_from, and_parts, false_from_ne_true}
use Rattle.std.proofs.lemmas.List.{reverse-append}
use Rattle.lrat_check.specs.declared.reading.Reading.TheVariants as read
use Rattle.lrat_check.specs.Sets.{has, is_false, negs, without, union, reading}
use Rattle.lrat_check.specs.Steps.{numbered, is_negative}
use Rattle.sat_trail.specs.Trail.{Entries, lits, below}
use Rattle.sat_trail.proofs.Members.{same_is, same_self, neg_neg, or_left, or_right, or_cases, or_both, has_append}
use Rattle.sat_trail.proofs.Members.{none_at}
use Rattle.sat_trail.proofs.Readings.{unit_to, unit_from}
use Rattle.sat_propagate.proofs.Consistent.{no_pair}
use Rattle.sat_propagate.specs.Watches.{SameLits}
use Rattle.sat_propagate.proofs.Orders.{lit_from, lits_from}
use Rattle.sat_learn.specs.Analysis.{Derives, Resolves, is_stray, implies, is_unit}
use Rattle.sat_learn.proofs.Tracing.{resolvent_more, numbered_at, union_without, positive, both_ways}
use Rattle.sat_learn.proofs.News.{negs_has, negs_from, unit_is}

-- the complements of a clause, by what they hold
negs_is : (c : List ℤ) (x : ℤ) → has (negs c) x ≡ has c (neg_ℤ x)
negs_is c x = both_ways (has (negs c) x) (has c (neg_ℤ x)) (negs_has c x)
    (λ h. ap (has (negs c)) (sym (neg_neg x)) ∙ negs_from c (neg_ℤ x) h)

-- a clause that is traced back
pub traced : (clauses : List (List ℤ)) (t : Entries) (r hints : List ℤ) → Derives clauses t r hints
    → Resolves clauses t r hints
traced clauses t r hints d = record {
  stand = d.stand;
  all_false = d.all_false;
  all_lits = d.all_lits;
  fine = d.fine;
  gives = λ set s. d.gives set
      (λ x h. ap (has (lits t)) (sym (neg_neg x)) ∙ d.all_false (neg_ℤ x) (sym (negs_is r x) ∙ sym (s x) ∙ h))
      (λ x h. s (neg_ℤ x) ∙ negs_is r (neg_ℤ x) ∙ ap (has r) (neg_neg x) ∙ h);
}

not_true : (b : Bool) → not b ≡ true → b ≡ false
not_true true h = absurd (false≢true h)
not_true false h = refl

stays : (forced dropped there : Bool) → (not forced && (dropped || not there)) ≡ false → forced ≡ false
    → (there ≡ true) × (dropped ≡ false)
stays true dropped there e f = absurd (true≢false f)
stays false true there e f = absurd (true≢false e)
stays false false true e f = (refl, refl)
stays false false false e f = absurd (true≢false e)

-- a literal is left out, where the clause at the place forces its complement
module _ (clauses : List (List ℤ)) (t : Entries) (r hints : List ℤ) (d : Resolves clauses t r hints) (y : ℤ)
    (there : has r y ≡ true) (place : ℕ) (c : List ℤ) (found : slice_get clauses place ≡ Some c)
    (i : implies r (neg_ℤ y) y c ≡ true) (out : List ℤ)
    (left : (x : ℤ) → has out x ≡ (not (int_eq y x) && has r x)) where
  parts : (has c (neg_ℤ y) ≡ true) × (not (list_any (is_stray r (neg_ℤ y) y) c) ≡ true)
  parts = and_parts (has c (neg_ℤ y)) (not (list_any (is_stray r (neg_ℤ y) y) c)) i

  others : (x : ℤ) → has c x ≡ true → int_eq (neg_ℤ y) x ≡ false → (has r x ≡ true) × (int_eq y x ≡ false)
  others x h n = stays (int_eq (neg_ℤ y) x) (int_eq y x) (has r x)
      (none_at (is_stray r (neg_ℤ y) y) c x (not_true (list_any (is_stray r (neg_ℤ y) y) c) parts.1) h) n

  out_in : (x : ℤ) → has out x ≡ true → has r x ≡ true
  out_in x h = (and_parts (not (int_eq y x)) (has r x) (sym (left x) ∙ h)).1

  in_out : (x : ℤ) → int_eq y x ≡ false → has r x ≡ true → has out x ≡ true
  in_out x n h = left x ∙ and_from (not (int_eq y x)) (has r x) (ap not n) h

  y_out : has out y ≡ false
  y_out = left y ∙ ap (λ b. not b && has r y) (same_self y y refl)

  other_out : (x : ℤ) → has c x ≡ true → int_eq (neg_ℤ y) x ≡ false → has out x ≡ true
  other_out x h n = let p = others x h n in in_out x p.1 p.0

  -- no literal is true on the trail and false there
  apart : (x : ℤ) → has (lits t) x ≡ true → has r x ≡ true → ⊥
  apart x h k = no_pair clauses t d.stand x h (d.all_false x k)

  complement_true : has (lits t) (neg_ℤ y) ≡ true
  complement_true = d.all_false y there

  module _ (set : List ℤ) (s : SameLits set (negs out)) where
    set_is : (x : ℤ) → has set x ≡ has out (neg_ℤ x)
    set_is x = s x ∙ negs_is out x

    false_is : (x : ℤ) → is_false set x ≡ has out x
    false_is x = set_is (neg_ℤ x) ∙ ap (has out) (neg_neg x)

    -- what is true in the set is true on the trail
    set_true : (x : ℤ) → has set x ≡ true → has (lits t) x ≡ true
    set_true x h = ap (has (lits t)) (sym (neg_neg x)) ∙ d.all_false (neg_ℤ x) (out_in (neg_ℤ x) (sym (set_is x) ∙ h))

    untrue : has set (neg_ℤ y) ≡ false
    untrue = set_is (neg_ℤ y) ∙ ap (has out) (neg_neg y) ∙ y_out

    untrue_other : (x : ℤ) → has c x ≡ true → has set x ≡ false
    untrue_other x h = elim (cases_Bool (int_eq (neg_ℤ y) x)) [
      | inl e ↦ ap (has set) (sym (same_is (neg_ℤ y) x e)) ∙ untrue
      | inr e ↦ false_from_ne_true (has set x)
          (λ k. apart x (set_true x k) (out_in x (other_out x h e)))
    ]

    forced : reading set c ≡ read.Unit (neg_ℤ y)
    forced = unit_from set c (neg_ℤ y) (record {
      member = parts.0;
      unfalse = false_is (neg_ℤ y) ∙ false_from_ne_true (has out (neg_ℤ y))
          (λ h. apart (neg_ℤ y) complement_true (out_in (neg_ℤ y) h));
      untrue = untrue;
      others = λ x h n. false_is x ∙ other_out x h n;
      none = untrue_other;
    })

    -- with the complement the set makes the longer clause false
    more_is : SameLits (set ++ neg_ℤ y ∷ []) (negs r)
    more_is x = both_ways (has (set ++ neg_ℤ y ∷ []) x) (has (negs r) x)
        (λ h. negs_is r x ∙ elim (or_cases (has set x) (has (neg_ℤ y ∷ []) x)
        (sym (has_append set (neg_ℤ y ∷ []) x) ∙ h)) [
          | inl k ↦ out_in (neg_ℤ x) (sym (set_is x) ∙ k)
          | inr k ↦ elim (or_cases (int_eq x (neg_ℤ y)) false k) [
            | inl e ↦ ap (has r) (ap neg_ℤ (same_is x (neg_ℤ y) e) ∙ neg_neg y) ∙ there
            | inr e ↦ absurd (false≢true e)
          ]
        ])
        (λ h. has_append set (neg_ℤ y ∷ []) x ∙ elim (cases_Bool (int_eq y (neg_ℤ x))) [
          | inl e ↦ or_right (has set x) (has (neg_ℤ y ∷ []) x) (or_left (int_eq x (neg_ℤ y)) false
              (same_self x (neg_ℤ y) (sym (neg_neg x) ∙ ap neg_ℤ (sym (same_is y (neg_ℤ x) e)))))
          | inr e ↦ or_left (has set x) (has (neg_ℤ y ∷ []) x)
              (set_is x ∙ in_out (neg_ℤ x) e (sym (negs_is r x) ∙ h))
        ])

    -- what is left of the resolvent
    rest_is : (other : List ℤ) → SameLits other r
        → SameLits (union (without (neg_ℤ y) c) (without (neg_ℤ (neg_ℤ y)) other)) out
    rest_is other g x = union_without (neg_ℤ y) (neg_ℤ (neg_ℤ y)) c other x
        ∙ ap (λ b. (not (int_eq (neg_ℤ y) x) && has c x) || (not (int_eq (neg_ℤ (neg_ℤ y)) x) && b)) (g x)
        ∙ ap (λ z. (not (int_eq (neg_ℤ y) x) && has c x) || (not (int_eq z x) && has r x)) (neg_neg y)
        ∙ both_ways ((not (int_eq (neg_ℤ y) x) && has c x) || (not (int_eq y x) && has r x)) (has out x)
        (λ h. elim (or_cases (not (int_eq (neg_ℤ y) x) && has c x) (not (int_eq y x) && has r x) h) [
          | inl k ↦
              let p = and_parts (not (int_eq (neg_ℤ y) x)) (has c x) k in
              other_out x p.1 (not_true (int_eq (neg_ℤ y) x) p.0)
          | inr k ↦ left x ∙ k
        ])
        (λ h. or_right (not (int_eq (neg_ℤ y) x) && has c x) (not (int_eq y x) && has r x) (sym (left x) ∙ h))

  pub shortens : Resolves clauses t out (pos (place + 1) ∷ hints)
  shortens = record {
    stand = d.stand;
    all_false = λ x h. d.all_false x (out_in x h);
    all_lits = lits_from out (λ x h. lit_from r x d.all_lits (out_in x h));
    fine = or_both (is_negative (pos (place + 1))) (list_any is_negative hints) (positive (place + 1)) d.fine;
    gives = λ set s.
        let g = d.gives (set ++ neg_ℤ y ∷ []) (more_is set s) in (
          union (without (neg_ℤ y) c) (without (neg_ℤ (neg_ℤ y)) g.0),
          resolvent_more (numbered clauses) set (pos (place + 1)) hints c g.0 (neg_ℤ y)
              (numbered_at clauses place c found) (forced set s) g.1 (g.2 (neg_ℤ (neg_ℤ y)) ∙ ap (has r) (neg_neg y) ∙ there),
          rest_is set s g.0 g.2,
        );
  }

  -- one literal alone stays open below the newest decision, where the one that is left out is false there
  pub stays_one : is_unit (reading (lits (below t)) r) ≡ true → is_false (lits (below t)) y ≡ true
      → is_unit (reading (lits (below t)) out) ≡ true
  stays_one one f =
      let l = unit_is (reading (lits (below t)) r) one in
      let a = unit_to (lits (below t)) r l.0 l.1 in
      ap is_unit (unit_from (lits (below t)) out l.0 (record {
        member = in_out l.0 (false_from_ne_true (int_eq y l.0)
            (λ e. false≢true (sym a.unfalse ∙ ap (is_false (lits (below t))) (sym (same_is y l.0 e)) ∙ f))) a.member;
        unfalse = a.unfalse;
        untrue = a.untrue;
        others = λ x h n. a.others x (out_in x h) n;
        none = λ x h. a.none x (out_in x h);
      }))

-- with the hints in the order in which they were found
pub behind : (clauses : List (List ℤ)) (t : Entries) (out hints more : List ℤ) (place : ℕ)
    → Resolves clauses t out (pos (place + 1) ∷ reverse hints) → more ≡ hints ++ pos (place + 1) ∷ []
    → Resolves clauses t out (reverse more)
behind clauses t out hints more place d q =
    subst (Resolves clauses t out) (sym (ap reverse q ∙ reverse-append hints (pos (place + 1) ∷ []))) d
