-- A conflict is traced back along a trail: the clause stays the resolvent of its hints.
use Rattle.std.proofs.Common.{◌≡◌, ℕ, suc, ◌+◌, Bool, true, false, not, cond, ◌&&◌, ◌||◌, List, [], ◌∷◌, ◌++◌}
use Rattle.std.proofs.Common.{ℤ, pos}
use Rattle.std.proofs.Common.{neg_ℤ, filter, Some, refl, ap, sym, ◌∙◌, inl, inr, arith}
use Rattle.std.proofs.lemmas.Bool.{le-ltb}
use Rattle.std.specs.Prelude.{unsigned_abs, slice_get}
use Rattle.std.specs.List.{list_any}
use Rattle.std.specs.Ordering.{int_eq}
use Rattle.std.proofs.lemmas.Bool.{false≢true, cases_Bool, and_from, and_parts}
use Rattle.lrat_check.specs.declared.reading.Reading.TheVariants as read
use Rattle.lrat_check.specs.Sets.{has, is_false, without, union, reading, IsLit, AreLits}
use Rattle.lrat_check.specs.Steps.{Held, numbered, is_negative}
use Rattle.lrat_check.specs.Resolved.{resolvent}
use Rattle.sat_trail.specs.declared.trail.Entry.{Entry}
use Rattle.sat_trail.specs.Trail.{Entries, lits, Stand}
use Rattle.sat_trail.specs.Clauses.{AllFalse, Within}
use Rattle.sat_propagate.specs.Watches.{SameLits}
use Rattle.sat_propagate.proofs.Orders.{lits_same}
use Rattle.sat_learn.specs.Analysis.{Derives}
use Rattle.sat_propagate.proofs.Consistent.{head_or_tail, none_true}
use Rattle.sat_trail.proofs.Members.{same_is, same_self, neg_neg, or_left, or_right, or_cases, or_both, has_tail}
use Rattle.sat_trail.proofs.Members.{has_append, without_has, without_from, union_has, union_left, union_right}
use Rattle.sat_trail.proofs.Readings.{unit_to, unit_from, false_to, false_from}

false_from_ne_true : (b : Bool) → (b ≡ true → ⊥) → b ≡ false
false_from_ne_true true h = absurd (h refl)
false_from_ne_true false h = refl

pub resolvent_last : (held : Held) (set : List ℤ) (h : ℤ) (c : List ℤ) → held (unsigned_abs h) ≡ Some c
    → reading set c ≡ read.False → resolvent held set (h ∷ []) ≡ Some c
resolvent_last held set h c g f = grind (arith, g, f)

pub resolvent_more : (held : Held) (set : List ℤ) (h : ℤ) (hs c r : List ℤ) (l : ℤ) → held (unsigned_abs h) ≡ Some c
    → reading set c ≡ read.Unit l → resolvent held (set ++ l ∷ []) hs ≡ Some r → has r (neg_ℤ l) ≡ true
    → resolvent held set (h ∷ hs) ≡ Some (union (without l c) (without (neg_ℤ l) r))
resolvent_more held set h hs c r l g u e m = grind (arith, g, u, e, m)

-- the place's clause has the next id
pub numbered_at : (clauses : List (List ℤ)) (place : ℕ) (c : List ℤ) → slice_get clauses place ≡ Some c
    → numbered clauses (unsigned_abs (pos (place + 1))) ≡ Some c
numbered_at clauses place c g = ap (numbered clauses) at ∙ g where
  at : unsigned_abs (pos (place + 1)) ≡ suc place
  at = omega arith

neg_lit : (l x : ℤ) → int_eq l x ≡ true → IsLit l → l ≡ neg_ℤ x → ⊥
neg_lit l x e h k = grind (arith, same_is l x e, k, h.0)

-- a literal that the newest entry alone makes false is its complement
pub off_newest : (e : Entry) (t : Entries) (x : ℤ) → is_false (lits (e ∷ t)) x ≡ true
    → int_eq (neg_ℤ e.lit) x ≡ false → is_false (lits t) x ≡ true
off_newest e t x h n = elim (head_or_tail e t (neg_ℤ x) h) [
  | inl k ↦ absurd (false≢true (sym n ∙ same_self (neg_ℤ e.lit) x (ap neg_ℤ (sym k) ∙ neg_neg x)))
  | inr k ↦ k
]

-- where the newest entry's complement isn't in the clause, the entry is left out
pub skips : (clauses : List (List ℤ)) (e : Entry) (t : Entries) (r hints : List ℤ) → Derives clauses (e ∷ t) r hints
    → has r (neg_ℤ e.lit) ≡ false → Derives clauses t r hints
skips clauses e t r hints d m = record {
  stand = d.stand.1;
  all_false = λ x h. off_newest e t x (d.all_false x h)
      (false_from_ne_true (int_eq (neg_ℤ e.lit) x)
      (λ k. false≢true (sym m ∙ ap (has r) (same_is (neg_ℤ e.lit) x k) ∙ h)));
  all_lits = d.all_lits;
  fine = d.fine;
  gives = λ set w a. d.gives set (λ x h. has_tail x e.lit (lits t) (w x h)) a;
}

added_false : (set : List ℤ) (l x : ℤ) → is_false set x ≡ true → is_false (set ++ l ∷ []) x ≡ true
added_false set l x h = has_append set (l ∷ []) (neg_ℤ x) ∙ or_left (has set (neg_ℤ x)) (has (l ∷ []) (neg_ℤ x)) h

added_new : (set : List ℤ) (l x : ℤ) → int_eq (neg_ℤ l) x ≡ true → is_false (set ++ l ∷ []) x ≡ true
added_new set l x h = has_append set (l ∷ []) (neg_ℤ x)
    ∙ or_right (has set (neg_ℤ x)) (has (l ∷ []) (neg_ℤ x))
    (or_left (int_eq (neg_ℤ x) l) false (same_self (neg_ℤ x) l (ap neg_ℤ (sym (same_is (neg_ℤ l) x h)) ∙ neg_neg l)))

within_added : (set : List ℤ) (e : Entry) (t : Entries) → Within set (lits t)
    → Within (set ++ e.lit ∷ []) (lits (e ∷ t))
within_added set e t w x h =
    elim (or_cases (has set x) (has (e.lit ∷ []) x) (sym (has_append set (e.lit ∷ []) x) ∙ h)) [
      | inl k ↦ has_tail x e.lit (lits t) (w x k)
      | inr k ↦ or_left (int_eq x e.lit) (has (lits t) x)
          (elim (or_cases (int_eq x e.lit) false k) [ inl a ↦ a | inr a ↦ absurd (false≢true a) ])
    ]

lits_cond : (b : Bool) (l : ℤ) (c : List ℤ) → IsLit l → AreLits c → AreLits (cond b (l ∷ c) c)
lits_cond true l c h k = (h, k)
lits_cond false l c h k = k

all_filter : (p : ℤ → Bool) (c : List ℤ) → AreLits c → AreLits (filter p c)
all_filter p [] h = tt
all_filter p (l ∷ ls) h = lits_cond (p l) l (filter p ls) h.0 (all_filter p ls h.1)

all_append : (a b : List ℤ) → AreLits a → AreLits b → AreLits (a ++ b)
all_append [] b h k = k
all_append (l ∷ ls) b h k = (h.0, all_append ls b h.1 k)

pub all_union : (l m : ℤ) (c r : List ℤ) → AreLits c → AreLits r → AreLits (union (without l c) (without m r))
all_union l m c r h k = all_append (filter (λ x. not (has (without m r) x)) (without l c)) (without m r)
    (all_filter (λ x. not (has (without m r) x)) (without l c) (all_filter (λ x. not (int_eq l x)) c h))
    (all_filter (λ x. not (int_eq m x)) r k)

pub positive : (n : ℕ) → is_negative (pos n) ≡ false
positive n = le-ltb n 0 (omega arith)

-- a false clause is what its own hint derives
pub begins : (clauses : List (List ℤ)) (t : Entries) (place : ℕ) (c : List ℤ) → Stand clauses t
    → slice_get clauses place ≡ Some c → reading (lits t) c ≡ read.False → AreLits c
    → Derives clauses t c (pos (place + 1) ∷ [])
begins clauses t place c s g f k = record {
  stand = s;
  all_false = (false_to (lits t) c f).0;
  all_lits = k;
  fine = or_both (is_negative (pos (place + 1))) false (positive (place + 1)) refl;
  gives = λ set w a. (
    c,
    resolvent_last (numbered clauses) set (pos (place + 1)) c (numbered_at clauses place c g)
        (false_from set c a (none_true clauses t s set c w (false_to (lits t) c f).0)),
    λ x. refl,
  );
}

-- the order of a clause's literals doesn't matter
pub renamed : (clauses : List (List ℤ)) (t : Entries) (c r hints : List ℤ) → Derives clauses t c hints → SameLits r c
    → Derives clauses t r hints
renamed clauses t c r hints d s = record {
  stand = d.stand;
  all_false = λ x h. d.all_false x (sym (s x) ∙ h);
  all_lits = lits_same c r (λ x. sym (s x)) d.all_lits;
  fine = d.fine;
  gives = λ set w a. let g = d.gives set w (λ x h. a x (s x ∙ h)) in (g.0, g.1, λ x. g.2 x ∙ sym (s x));
}

pub both_ways : (a b : Bool) → (a ≡ true → b ≡ true) → (b ≡ true → a ≡ true) → a ≡ b
both_ways true b f g = sym (f refl)
both_ways false b f g = sym (false_from_ne_true b (λ h. false≢true (g h)))

not_or : (b : Bool) → b ≡ false → not b ≡ true
not_or b h = ap not h

without_is : (l : ℤ) (c : List ℤ) (x : ℤ) → has (without l c) x ≡ (not (int_eq l x) && has c x)
without_is l c x = both_ways (has (without l c) x) (not (int_eq l x) && has c x)
    (λ h. let p = without_has l c x h in and_from (not (int_eq l x)) (has c x) (not_or (int_eq l x) p.1) p.0)
    (λ h. let p = and_parts (not (int_eq l x)) (has c x) h in
    without_from l c x p.1 (not_from_true_of (int_eq l x) p.0)) where
      not_from_true_of : (b : Bool) → not b ≡ true → b ≡ false
      not_from_true_of true h = absurd (false≢true h)
      not_from_true_of false h = refl

union_is : (a b : List ℤ) (x : ℤ) → has (union a b) x ≡ (has a x || has b x)
union_is a b x = both_ways (has (union a b) x) (has a x || has b x)
    (λ h. elim (union_has a b x h) [
      | inl k ↦ or_left (has a x) (has b x) k
      | inr k ↦ or_right (has a x) (has b x) k
    ])
    (λ h. elim (or_cases (has a x) (has b x) h) [
      | inl k ↦ union_left a b x k
      | inr k ↦ union_right a b x k
    ])

-- what a resolvent holds
pub union_without : (l m : ℤ) (c r : List ℤ) (x : ℤ)
    → has (union (without l c) (without m r)) x
    ≡ ((not (int_eq l x) && has c x) || (not (int_eq m x) && has r x))
union_without l m c r x = union_is (without l c) (without m r) x
    ∙ ap (λ b. b || has (without m r) x) (without_is l c x)
    ∙ ap (λ b. (not (int_eq l x) && has c x) || b) (without_is m r x)

-- where the newest entry's complement is in the clause, its reason takes the complement's place
pub resolves : (clauses : List (List ℤ)) (e : Entry) (t : Entries) (r hints : List ℤ) (place : ℕ) (c : List ℤ)
    → Derives clauses (e ∷ t) r hints → has r (neg_ℤ e.lit) ≡ true → slice_get clauses place ≡ Some c
    → reading (lits t) c ≡ read.Unit e.lit → AreLits c
    → Derives clauses t (union (without e.lit c) (without (neg_ℤ e.lit) r)) (pos (place + 1) ∷ hints)
resolves clauses e t r hints place c d m g u k =
    let al = unit_to (lits t) c e.lit u in
    record {
      stand = d.stand.1;
      all_false = λ x h. elim (union_has (without e.lit c) (without (neg_ℤ e.lit) r) x h) [
        | inl a ↦ let p = without_has e.lit c x a in al.others x p.0 p.1
        | inr a ↦ let p = without_has (neg_ℤ e.lit) r x a in off_newest e t x (d.all_false x p.0) p.1
      ];
      all_lits = all_union e.lit (neg_ℤ e.lit) c r k d.all_lits;
      fine = or_both (is_negative (pos (place + 1))) (list_any is_negative hints) (positive (place + 1)) d.fine;
      gives = λ set w a.
          let unit : reading set c ≡ read.Unit e.lit = unit_from set c e.lit (record {
            member = al.member;
            unfalse = false_from_ne_true (is_false set e.lit) (λ h. false≢true (sym al.unfalse ∙ w (neg_ℤ e.lit) h));
            untrue = false_from_ne_true (has set e.lit) (λ h. false≢true (sym al.untrue ∙ w e.lit h));
            others =
                λ x h n. a x (union_left (without e.lit c) (without (neg_ℤ e.lit) r) x (without_from e.lit c x h n));
            none = λ x h. false_from_ne_true (has set x) (λ b. false≢true (sym (al.none x h) ∙ w x b));
          }) in
          let rest : AllFalse (set ++ e.lit ∷ []) r = λ x h. elim (cases_Bool (int_eq (neg_ℤ e.lit) x)) [
            | inl b ↦ added_new set e.lit x b
            | inr b ↦ added_false set e.lit x (a x (union_right (without e.lit c) (without (neg_ℤ e.lit) r) x
                (without_from (neg_ℤ e.lit) r x h b)))
          ] in
          let g2 = d.gives (set ++ e.lit ∷ []) (within_added set e t w) rest in (
            union (without e.lit c) (without (neg_ℤ e.lit) g2.0),
            resolvent_more (numbered clauses) set (pos (place + 1)) hints c g2.0 e.lit (numbered_at clauses place c g)
                unit g2.1 (g2.2 (neg_ℤ e.lit) ∙ m),
            λ x. union_without e.lit (neg_ℤ e.lit) c g2.0 x
                ∙ ap (λ b. (not (int_eq e.lit x) && has c x) || (not (int_eq (neg_ℤ e.lit) x) && b)) (g2.2 x)
                ∙ sym (union_without e.lit (neg_ℤ e.lit) c r x),
          );
    }
