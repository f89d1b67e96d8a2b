-- What a trail makes true it doesn't make false; how clauses with the same literals read.
use Rattle.std.proofs.Common.{◌≡◌, Bool, true, false, cond, List, [], ◌∷◌, ℤ, pos, zero, suc, negsuc}
use Rattle.std.proofs.Common.{neg_ℤ}
use Rattle.std.proofs.Common.{Option, Some, None, refl, ap, sym, ◌∙◌, ◌⊎◌, inl, inr, arith}
use Rattle.std.specs.List.{list_any}
use Rattle.std.specs.Ordering.{int_eq}
use Rattle.std.proofs.lemmas.Bool.{true≢false, false≢true, cases_Bool, false_from_ne_true}
use Rattle.lrat_check.specs.declared.reading.Reading.{Reading}
use Rattle.lrat_check.specs.declared.reading.Reading.TheVariants as read
use Rattle.lrat_check.specs.Sets.{has, is_false, first_open, other_open, reading_of, reading, IsLit}
use Rattle.lrat_check.specs.Resolved.{is_open}
use Rattle.sat_trail.specs.declared.trail.Entry.{Entry}
use Rattle.sat_trail.specs.Trail.{Entries, lits, Stand}
use Rattle.sat_trail.specs.Clauses.{NoneTrue, AllFalse, Within}
use Rattle.sat_trail.proofs.Members.{same_is, neg_neg, or_cases, any_from, any_has}
use Rattle.sat_trail.proofs.Readings.{false_from, unit_from, open_to, open_from}
use Rattle.sat_propagate.specs.Watches.{Forced, SameLits, OneAlone}

pub head_or_tail : (e : Entry) (t : Entries) (x : ℤ) → has (lits (e ∷ t)) x ≡ true
    → (x ≡ e.lit) ⊎ (has (lits t) x ≡ true)
head_or_tail e t x h =
    elim (or_cases (int_eq x e.lit) (has (lits t) x) h) [ inl k ↦ inl (same_is x e.lit k) | inr k ↦ inr k ]

neg_apart : (l : ℤ) → IsLit l → neg_ℤ l ≡ l → ⊥
neg_apart (pos zero) h e = absurd (omega (arith, h.0))
neg_apart (pos (suc n)) h e = cc
neg_apart (negsuc n) h e = cc

-- a trail has no complementary pair
pub no_pair : (clauses : List (List ℤ)) (t : Entries) → Stand clauses t → (l : ℤ) → has (lits t) l ≡ true
    → is_false (lits t) l ≡ true → ⊥
no_pair clauses [] s l h k = false≢true h
no_pair clauses (e ∷ t) s l h k = elim (head_or_tail e t l h) [
  | inl a ↦ elim (head_or_tail e t (neg_ℤ l) k) [
    | inl b ↦ neg_apart e.lit s.0.lit (ap neg_ℤ (sym a) ∙ b)
    | inr b ↦ false≢true (sym s.0.unfalse ∙ ap (λ x. has (lits t) (neg_ℤ x)) (sym a) ∙ b)
  ]
  | inr a ↦ elim (head_or_tail e t (neg_ℤ l) k) [
    | inl b ↦ false≢true (sym s.0.unfalse ∙ ap (λ x. has (lits t) (neg_ℤ x)) (sym b) ∙ ap (has (lits t)) (neg_neg l)
        ∙ a)
    | inr b ↦ no_pair clauses t s.1 l a b
  ]
]

-- what is false on a trail isn't true on a part of it
pub none_true : (clauses : List (List ℤ)) (t : Entries) → Stand clauses t → (set c : List ℤ) → Within set (lits t)
    → AllFalse (lits t) c → NoneTrue set c
none_true clauses t s set c w a x h = false_from_ne_true (has set x) (λ k. no_pair clauses t s x (w x k) (a x h))

true_at : (o : Option ℤ) (other : ℤ → Bool) → reading_of o other ≡ read.True → ⊥
true_at None other e = cc
true_at (Some l) other e = at (other l) e where
  at : (b : Bool) → cond b read.Open (read.Unit l) ≡ read.True → ⊥
  at true h = cc
  at false h = cc

true_cond : (b : Bool) (rest : Reading) → cond b read.True rest ≡ read.True → (rest ≡ read.True → ⊥) → b ≡ true
true_cond true rest e n = refl
true_cond false rest e n = absurd (n e)

pub any_true : (set c : List ℤ) → reading set c ≡ read.True → list_any (has set) c ≡ true
any_true set c e = true_cond (list_any (has set) c) (reading_of (first_open set c) (λ l. other_open set l c)) e
    (true_at (first_open set c) (λ l. other_open set l c))

pub true_reads : (set c : List ℤ) → list_any (has set) c ≡ true → is_open (reading set c) ≡ true
true_reads set c h = grind (arith, h)

-- a clause without two different literals isn't open
pub not_open : (set c : List ℤ) → OneAlone c → reading set c ≡ read.Open → ⊥
not_open set c a e =
    let t = (open_to set c e).0 in
    true≢false (sym (a t.one t.two t.has_one t.has_two) ∙ t.differ)

-- so where it is settled it has a true literal
pub alone_true : (set c : List ℤ) → OneAlone c → is_open (reading set c) ≡ true → list_any (has set) c ≡ true
alone_true set c a o = at (reading set c) refl o where
  at : (r : Reading) → reading set c ≡ r → is_open r ≡ true → list_any (has set) c ≡ true
  at read.True e k = any_true set c e
  at read.False e k = absurd (false≢true k)
  at (read.Unit l) e k = absurd (false≢true k)
  at read.Open e k = absurd (not_open set c a e)

-- a clause with the literals of a false one is false
pub reads_false : (clauses : List (List ℤ)) (t : Entries) (c d : List ℤ) → Stand clauses t → SameLits c d
    → AllFalse (lits t) d → reading (lits t) c ≡ read.False
reads_false clauses t c d s same a =
    let f : AllFalse (lits t) c = λ x h. a x (sym (same x) ∙ h) in
    false_from (lits t) c f (none_true clauses t s (lits t) c (λ x h. h) f)

-- a clause with the literals of one that forces a literal forces it too
pub reads_unit : (clauses : List (List ℤ)) (t : Entries) (c d : List ℤ) (l : ℤ) → Stand clauses t → SameLits c d
    → Forced (lits t) d l → reading (lits t) c ≡ read.Unit l
reads_unit clauses t c d l s same f = unit_from (lits t) c l (record {
  member = same l ∙ f.member;
  unfalse = f.unfalse;
  untrue = f.untrue;
  others = λ x h n. f.others x (sym (same x) ∙ h) n;
  none = λ x h. elim (cases_Bool (int_eq l x)) [
    | inl e ↦ ap (has (lits t)) (sym (same_is l x e)) ∙ f.untrue
    | inr e ↦ false_from_ne_true (has (lits t) x) (λ k. no_pair clauses t s x k (f.others x (sym (same x) ∙ h) e))
  ];
})

any_same : (p : ℤ → Bool) (c d : List ℤ) → SameLits c d → list_any p d ≡ true → list_any p c ≡ true
any_same p c d same h = let x = any_has p d h in any_from p c x.0 (same x.0 ∙ x.1) x.2

-- a clause with the literals of a settled one is settled
pub reads_open : (set c d : List ℤ) → SameLits c d → is_open (reading set d) ≡ true → is_open (reading set c) ≡ true
reads_open set c d same o = at (reading set d) refl o where
  at : (r : Reading) → reading set d ≡ r → is_open r ≡ true → is_open (reading set c) ≡ true
  at read.True e k = true_reads set c (any_same (has set) c d same (any_true set d e))
  at read.False e k = absurd (false≢true k)
  at (read.Unit l) e k = absurd (false≢true k)
  at read.Open e k =
      let t = open_to set d e in
      ap is_open (open_from set c (record {
        one = t.0.one;
        two = t.0.two;
        has_one = same t.0.one ∙ t.0.has_one;
        has_two = same t.0.two ∙ t.0.has_two;
        differ = t.0.differ;
        one_unfalse = t.0.one_unfalse;
        two_unfalse = t.0.two_unfalse;
      }) (λ x h. t.1 x (sym (same x) ∙ h)))
