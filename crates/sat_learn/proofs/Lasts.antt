-- The literal of a clause that became false last: it tells how far a clause with one open literal stays so.
use Rattle.std.proofs.Common.{◌≡◌, ℕ, zero, suc, ◌+◌, ◌-◌, Bool, true, false, List, [], ◌∷◌, ◌++◌, ℤ, neg_ℤ}
use Rattle.std.proofs.Common.{length, drop, Option, Some, None, refl, ap, sym, ◌∙◌, ◌⊎◌, inl, inr, arith}
use Rattle.std.specs.Ordering.{int_eq}
use Rattle.std.proofs.Math.Seq.{drop-nil}
use Rattle.std.proofs.lemmas.Bool.{false≢true, cases_Bool, false_from_ne_true}
use Rattle.lrat_check.specs.declared.reading.Reading.{Reading}
use Rattle.lrat_check.specs.declared.reading.Reading.TheVariants as read
use Rattle.lrat_check.specs.Sets.{has, is_false, reading}
use Rattle.sat_trail.specs.Trail.{Entries, lits, oldest, below, Outlasts}
use Rattle.sat_trail.proofs.Members.{same_is, or_cases, or_left, or_right, has_head, has_append}
use Rattle.sat_trail.proofs.Readings.{Alone, unit_to, unit_from}
use Rattle.sat_trail.proofs.Standing.{below_short, oldest_below}
use Rattle.sat_learn.specs.Analysis.{FalseLast, is_unit}
use Rattle.sat_learn.proofs.Levels.{below_within}
use Rattle.sat_learn.proofs.News.{unit_is}
use Rattle.sat_learn.proofs.Jumps.{none_less}

-- a clause with one literal more
module _ (clause : List ℤ) (lit : ℤ) where
  member : (x : ℤ) → has (clause ++ lit ∷ []) x ≡ true → (has clause x ≡ true) ⊎ (x ≡ lit)
  member x h = elim (or_cases (has clause x) (has (lit ∷ []) x) (sym (has_append clause (lit ∷ []) x) ∙ h)) [
    | inl k ↦ inl k
    | inr k ↦ elim (or_cases (int_eq x lit) false k) [
      | inl e ↦ inr (same_is x lit e)
      | inr e ↦ absurd (false≢true e)
    ]
  ]

  front : (x : ℤ) → has clause x ≡ true → has (clause ++ lit ∷ []) x ≡ true
  front x h = has_append clause (lit ∷ []) x ∙ or_left (has clause x) (has (lit ∷ []) x) h

  behind : has (clause ++ lit ∷ []) lit ≡ true
  behind = has_append clause (lit ∷ []) lit ∙ or_right (has clause lit) (has (lit ∷ []) lit) (has_head lit [])

  module _ (t : Entries) where
    pub later_open : (last : Option ℤ) → is_false (lits t) lit ≡ false → FalseLast t clause last
        → FalseLast t (clause ++ lit ∷ []) last
    later_open None f h = λ x k. elim (member x k) [
      | inl m ↦ h x m
      | inr e ↦ ap (is_false (lits t)) e ∙ f
    ]
    later_open (Some l) f h = (
      front l h.0,
      h.1,
      λ x k q. elim (member x k) [
        | inl m ↦ h.2 x m q
        | inr e ↦ absurd (false≢true (sym f ∙ ap (is_false (lits t)) (sym e) ∙ q))
      ],
    )

    pub later_first : is_false (lits t) lit ≡ true → FalseLast t clause None
        → FalseLast t (clause ++ lit ∷ []) (Some lit)
    later_first f h = (
      behind,
      f,
      λ x k q. elim (member x k) [
        | inl m ↦ absurd (false≢true (sym (h x m) ∙ q))
        | inr e ↦ λ end z. ap (is_false (lits (oldest end t))) e ∙ z
      ],
    )

    pub later_kept : (old : ℤ) → Outlasts t old lit → FalseLast t clause (Some old)
        → FalseLast t (clause ++ lit ∷ []) (Some old)
    later_kept old o h = (
      front old h.0,
      h.1,
      λ x k q. elim (member x k) [
        | inl m ↦ h.2 x m q
        | inr e ↦ λ end z. ap (is_false (lits (oldest end t))) e ∙ o end z
      ],
    )

    pub later_new : (old : ℤ) → Outlasts t lit old → is_false (lits t) lit ≡ true → FalseLast t clause (Some old)
        → FalseLast t (clause ++ lit ∷ []) (Some lit)
    later_new old o f h = (
      behind,
      f,
      λ x k q. elim (member x k) [
        | inl m ↦ λ end z. h.2 x m q end (o end z)
        | inr e ↦ λ end z. ap (is_false (lits (oldest end t))) e ∙ z
      ],
    )

-- before the first literal none is false
pub no_last : (t : Entries) → FalseLast t [] None
no_last t x h = absurd (false≢true h)

drop_twice : (a b : ℕ) (t : Entries) → drop a (drop b t) ≡ drop (a + b) t
drop_twice a zero t = let e : a ≡ a + 0 = omega arith in ap (λ n. drop n t) e
drop_twice a (suc b) [] = drop-nil a ∙ sym (drop-nil (a + suc b))
drop_twice a (suc b) (e ∷ t) = drop_twice a b t ∙ ap (λ n. drop n (e ∷ t)) (sym next) where
  next : a + suc b ≡ suc (a + b)
  next = omega arith

-- the oldest of the entries below the newest decision are some of the oldest
module _ (t : Entries) (end : ℕ) where
  abbrev part : ℕ
  part = length t - ((length (below t) - end) + (length t - length (below t)))

  oldest_part : oldest end (below t) ≡ oldest part t
  oldest_part =
      let short = below_short t in
      let many : length t - part ≡ (length (below t) - end) + (length t - length (below t)) = omega (arith, short) in
      ap (drop (length (below t) - end)) (sym (oldest_below t))
      ∙ drop_twice (length (below t) - end) (length t - length (below t)) t ∙ ap (λ n. drop n t) (sym many)

  pub outlasts_below : (a b : ℤ) → Outlasts t a b → is_false (lits (oldest end (below t))) a ≡ true
      → is_false (lits (oldest end (below t))) b ≡ true
  outlasts_below a b o h = ap (λ z. is_false (lits z) b) oldest_part
      ∙ o part (ap (λ z. is_false (lits z) a) (sym oldest_part) ∙ h)

open_below : (t : Entries) (x : ℤ) → is_false (lits t) x ≡ false → is_false (lits (below t)) x ≡ false
open_below t x f = false_from_ne_true (is_false (lits (below t)) x)
    (λ h. false≢true (sym f ∙ below_within t (neg_ℤ x) h))

not_unit : (now : Reading) → ((l : ℤ) → now ≡ read.Unit l → ⊥) → is_unit now ≡ false
not_unit read.True n = refl
not_unit read.False n = refl
not_unit (read.Unit l) n = absurd (n l refl)
not_unit read.Open n = refl

-- one literal u alone of a clause is open
module _ (t : Entries) (c : List ℤ) (u : ℤ) (a : Alone (lits t) c u) where
  alone_below : ((x : ℤ) → has c x ≡ true → int_eq u x ≡ false → is_false (lits (below t)) x ≡ true)
      → is_unit (reading (lits (below t)) c) ≡ true
  alone_below others = ap is_unit (unit_from (lits (below t)) c u (record {
    member = a.member;
    unfalse = open_below t u a.unfalse;
    untrue = false_from_ne_true (has (lits (below t)) u) (λ h. false≢true (sym a.untrue ∙ below_within t u h));
    others = others;
    none = none_less (lits (below t)) (lits t) c (below_within t) a.none;
  }))

  none_stays : FalseLast t c None → is_unit (reading (lits (below t)) c) ≡ true
  none_stays f = alone_below (λ x h n. absurd (false≢true (sym (f x h) ∙ a.others x h n)))

  some_stays : (l : ℤ) → FalseLast t c (Some l) → is_false (lits (below t)) l ≡ true
      → is_unit (reading (lits (below t)) c) ≡ true
  some_stays l f h = alone_below (λ x k n.
      ap (λ z. is_false (lits z) x) (sym (oldest_below t))
      ∙ f.2 x k (a.others x k n) (length (below t)) (ap (λ z. is_false (lits z) l) (oldest_below t) ∙ h))

  -- two literals of the clause are open below
  two_open : (l : ℤ) → FalseLast t c (Some l) → is_false (lits (below t)) l ≡ false → (m : ℤ)
      → Alone (lits (below t)) c m → ⊥
  two_open l f h m b = elim (cases_Bool (int_eq m u)) [
    | inr e ↦ false≢true (sym (open_below t u a.unfalse) ∙ b.others u a.member e)
    | inl e ↦ elim (cases_Bool (int_eq m l)) [
      | inr k ↦ false≢true (sym h ∙ b.others l f.0 k)
      | inl k ↦ false≢true (sym a.unfalse ∙ ap (is_false (lits t)) (sym (same_is m u e) ∙ same_is m l k) ∙ f.1)
    ]
  ]

  some_tells : (l : ℤ) → FalseLast t c (Some l) → (b : Bool) → is_false (lits (below t)) l ≡ b
      → b ≡ is_unit (reading (lits (below t)) c)
  some_tells l f true h = sym (some_stays l f h)
  some_tells l f false h = sym (not_unit (reading (lits (below t)) c)
      (λ m e. two_open l f h m (unit_to (lits (below t)) c m e)))

module _ (t : Entries) (c : List ℤ) (one : is_unit (reading (lits t) c) ≡ true) where
  is_alone : (u : ℤ) × Alone (lits t) c u
  is_alone = let l = unit_is (reading (lits t) c) one in (l.0, unit_to (lits t) c l.0 l.1)

  pub stays_none : FalseLast t c None → true ≡ is_unit (reading (lits (below t)) c)
  stays_none f = let a = is_alone in sym (none_stays t c a.0 a.1 f)

  pub stays_some : (l : ℤ) → FalseLast t c (Some l)
      → is_false (lits (below t)) l ≡ is_unit (reading (lits (below t)) c)
  stays_some l f = let a = is_alone in some_tells t c a.0 a.1 l f (is_false (lits (below t)) l) refl

  -- the literal that became false last stays so where the clause stays a unit
  pub last_below : is_unit (reading (lits (below t)) c) ≡ true → (last : Option ℤ) → FalseLast t c last
      → FalseLast (below t) c last
  last_below k None f = λ x h. open_below t x (f x h)
  last_below k (Some l) f = (
    f.0,
    stays_some l f ∙ k,
    λ x h q end z. outlasts_below t end l x (f.2 x h (below_within t (neg_ℤ x) q)) z,
  )
