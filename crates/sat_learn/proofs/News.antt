-- What a learnt clause is: the resolvent of its hints, one that strengthens unit propagation, and new as a set.
use Rattle.std.proofs.Common.{◌≡◌, ℕ, zero, suc, Bool, true, false, not, cond, List, [], ◌∷◌, ℤ}
use Rattle.std.proofs.Common.{neg_ℤ, Option, Some}
use Rattle.std.proofs.Common.{None, refl, ap, sym, ◌∙◌, inl, inr}
use Rattle.std.specs.Prelude.{slice_get}
use Rattle.std.specs.List.{list_any, list_all}
use Rattle.std.specs.Ordering.{int_eq}
use Rattle.std.proofs.lemmas.Bool.{false≢true, cases_Bool, and_from, and_parts, and_right, or_from, not_from_false}
use Rattle.std.proofs.lemmas.Bool.{not_from_true, false_from_ne_true}
use Rattle.lrat_check.specs.declared.reading.Reading.{Reading}
use Rattle.lrat_check.specs.declared.reading.Reading.TheVariants as read
use Rattle.lrat_check.specs.Sets.{has, is_false, within, same_set, without, negs, first_open, other_open, reading_of}
use Rattle.lrat_check.specs.Sets.{reading}
use Rattle.lrat_check.specs.Steps.{Held, numbered}
use Rattle.lrat_check.specs.Resolved.{IsResolvent, is_open, Strengthens}
use Rattle.sat_trail.specs.Trail.{Entries, lits, decided, below}
use Rattle.sat_learn.specs.Analysis.{Resolves, is_unit}
use Rattle.sat_trail.proofs.Members.{same_is, same_self, neg_neg, or_left, or_right, or_cases, has_head, has_tail}
use Rattle.sat_trail.proofs.Members.{any_has, without_has, without_from}
use Rattle.sat_trail.proofs.Readings.{unit_to, open_to}
use Rattle.sat_propagate.proofs.Consistent.{no_pair}
use Rattle.sat_learn.proofs.Levels.{below_within, settled_below, closed_numbered}

pub all_from : (p : ℤ → Bool) (c : List ℤ) → ((x : ℤ) → has c x ≡ true → p x ≡ true) → list_all p c ≡ true
all_from p [] h = refl
all_from p (l ∷ ls) h =
    and_from (p l) (list_all p ls) (h l (has_head l ls)) (all_from p ls (λ x k. h x (has_tail x l ls k)))

pub all_at : (p : ℤ → Bool) (c : List ℤ) (x : ℤ) → list_all p c ≡ true → has c x ≡ true → p x ≡ true
all_at p [] x a h = absurd (false≢true h)
all_at p (l ∷ ls) x a h = let q = and_parts (p l) (list_all p ls) a in elim (or_cases (int_eq x l) (has ls x) h) [
  | inl e ↦ ap p (same_is x l e) ∙ q.0
  | inr e ↦ all_at p ls x q.1 e
]

pub negs_has : (c : List ℤ) (x : ℤ) → has (negs c) x ≡ true → has c (neg_ℤ x) ≡ true
negs_has [] x h = absurd (false≢true h)
negs_has (l ∷ ls) x h = elim (or_cases (int_eq x (neg_ℤ l)) (has (negs ls) x) h) [
  | inl e ↦ or_left (int_eq (neg_ℤ x) l) (has ls (neg_ℤ x))
      (same_self (neg_ℤ x) l (ap neg_ℤ (same_is x (neg_ℤ l) e) ∙ neg_neg l))
  | inr e ↦ or_right (int_eq (neg_ℤ x) l) (has ls (neg_ℤ x)) (negs_has ls x e)
]

pub negs_from : (c : List ℤ) (x : ℤ) → has c x ≡ true → has (negs c) (neg_ℤ x) ≡ true
negs_from [] x h = absurd (false≢true h)
negs_from (l ∷ ls) x h = elim (or_cases (int_eq x l) (has ls x) h) [
  | inl e ↦ or_left (int_eq (neg_ℤ x) (neg_ℤ l)) (has (negs ls) (neg_ℤ x))
      (same_self (neg_ℤ x) (neg_ℤ l) (ap neg_ℤ (same_is x l e)))
  | inr e ↦ or_right (int_eq (neg_ℤ x) (neg_ℤ l)) (has (negs ls) (neg_ℤ x)) (negs_from ls x e)
]

-- a learnt clause is the resolvent of its hints
pub is_resolvent : (clauses : List (List ℤ)) (t : Entries) (r hints : List ℤ) → Resolves clauses t r hints
    → IsResolvent (numbered clauses) r hints
is_resolvent clauses t r hints d =
    let g = d.gives (negs r) (λ x. refl) in (
      g.0,
      g.1,
      and_from (within g.0 r) (within r g.0) (all_from (has r) g.0 (λ x h. sym (g.2 x) ∙ h))
          (all_from (has g.0) r (λ x h. g.2 x ∙ h)),
    )

pub unit_is : (now : Reading) → is_unit now ≡ true → (l : ℤ) × (now ≡ read.Unit l)
unit_is read.True h = absurd (false≢true h)
unit_is read.False h = absurd (false≢true h)
unit_is (read.Unit l) h = (l, refl)
unit_is read.Open h = absurd (false≢true h)

-- and strengthens unit propagation, where one literal alone is open below the newest decision
pub strengthens : (clauses : List (List ℤ)) (t : Entries) (r hints : List ℤ) → Resolves clauses t r hints
    → decided t ≡ true → is_unit (reading (lits (below t)) r) ≡ true → Strengthens (numbered clauses) r
strengthens clauses t r hints d k u =
    let l = unit_is (reading (lits (below t)) r) u in
    let a = unit_to (lits (below t)) r l.0 l.1 in
    record {
      lit = l.0;
      set = lits (below t);
      member = a.member;
      pairless = all_from (λ x. not (is_false (lits (below t)) x)) (lits (below t)) (λ x h.
          not_from_false (is_false (lits (below t)) x) (false_from_ne_true (is_false (lits (below t)) x) (λ f.
          no_pair clauses t d.stand x (below_within t x h) (below_within t (neg_ℤ x) f))));
      others = all_from (is_false (lits (below t))) (without l.0 r)
          (λ x h. let p = without_has l.0 r x h in a.others x p.0 p.1);
      undecided = (a.untrue, a.unfalse);
      stable = closed_numbered clauses (lits (below t)) (settled_below clauses t d.stand k);
    }

true_at : (o : Option ℤ) (other : ℤ → Bool) → reading_of o other ≡ read.True → ⊥
true_at None other e = cc
true_at (Some l) other e = at (other l) e where
  at : (b : Bool) → cond b read.Open (read.Unit l) ≡ read.True → ⊥
  at true h = cc
  at false h = cc

true_cond : (b : Bool) (rest : Reading) → cond b read.True rest ≡ read.True → (rest ≡ read.True → ⊥) → b ≡ true
true_cond true rest e n = refl
true_cond false rest e n = absurd (n e)

pub true_has : (set c : List ℤ) → reading set c ≡ read.True → (x : ℤ) × (has c x ≡ true) × (has set x ≡ true)
true_has set c e =
    any_has (has set) c (true_cond (list_any (has set) c) (reading_of (first_open set c) (λ l. other_open set l c)) e
    (true_at (first_open set c) (λ l. other_open set l c)))

-- a literal of such a clause that isn't false in the set is the clause's own
only : (held : Held) (r : List ℤ) (s : Strengthens held r) (x : ℤ) → has r x ≡ true → is_false s.set x ≡ false
    → s.lit ≡ x
only held r s x h f = elim (cases_Bool (int_eq s.lit x)) [
  | inl e ↦ same_is s.lit x e
  | inr e ↦ absurd (false≢true (sym f ∙ all_at (is_false s.set) (without s.lit r) x s.others
      (without_from s.lit r x h e)))
]

unfalse_in : (set : List ℤ) (x : ℤ) → list_all (λ l. not (is_false set l)) set ≡ true → has set x ≡ true
    → is_false set x ≡ false
unfalse_in set x p h = false_from_ne_true (is_false set x)
    (λ k. false≢true (sym (not_from_true (is_false set x) k) ∙ all_at (λ l. not (is_false set l)) set x p h))

not_same_at : (held : Held) (r : List ℤ) (s : Strengthens held r) (c : List ℤ) (now : Reading)
    → reading s.set c ≡ now → is_open now ≡ true → within c r ≡ true → ⊥
not_same_at held r s c read.True e o w =
    let x = true_has s.set c e in
    let own = only held r s x.0 (all_at (has r) c x.0 w x.1) (unfalse_in s.set x.0 s.pairless x.2) in
    false≢true (sym s.undecided.0 ∙ ap (has s.set) own ∙ x.2)
not_same_at held r s c read.False e o w = false≢true o
not_same_at held r s c (read.Unit l) e o w = false≢true o
not_same_at held r s c read.Open e o w =
    let t = (open_to s.set c e).0 in
    let one = only held r s t.one (all_at (has r) c t.one w t.has_one) t.one_unfalse in
    let two = only held r s t.two (all_at (has r) c t.two w t.has_two) t.two_unfalse in
    false≢true (sym t.differ ∙ same_self t.one t.two (sym one ∙ two))

none_each : (p : List ℤ → Bool) (cs : List (List ℤ))
    → ((place : ℕ) (c : List ℤ) → slice_get cs place ≡ Some c → p c ≡ false) → list_any p cs ≡ false
none_each p [] h = refl
none_each p (c ∷ cs) h = or_from (p c) (list_any p cs) (h zero c refl) (none_each p cs (λ place d e. h (suc place) d e))

-- it is none of the clauses, as a set
pub is_new : (cs : List (List ℤ)) (r : List ℤ) → Strengthens (numbered cs) r → list_any (same_set r) cs ≡ false
is_new cs r s = none_each (same_set r) cs (λ place c e.
    and_right (within r c) (within c r) (false_from_ne_true (within c r)
    (λ w. not_same_at (numbered cs) r s c (reading s.set c) refl (s.stable (suc place) c e) w)))
