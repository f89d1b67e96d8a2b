-- The places of a trail's literals after a change.
use Rattle.std.proofs.Common.{
  ◌≡◌,
  ℕ,
  zero,
  suc,
  ◌-◌,
  ◌<◌,
  ◌≤◌,
  Bool,
  true,
  false,
  not,
  cond,
  eqb,
  ltb,
  leb,
  ◌||◌,
  List,
}
use Rattle.std.proofs.Common.{[], ◌∷◌, ℤ}
use Rattle.std.proofs.Common.{length, drop, Option, Some, None, refl, ap, sym, ◌∙◌, ◌⊎◌, inl, inr, arith}
use Rattle.std.specs.Ordering.{int_eq}
use Rattle.std.proofs.lemmas.Bool.{false≢true, cases_Bool}
use Rattle.std.proofs.lemmas.Bool.Decides.{nat_tests}
use Rattle.lrat_check.specs.Sets.{has, IsLit}
use Rattle.sat_trail.specs.declared.trail.Entry.{Entry}
use Rattle.sat_trail.specs.Trail.{Entries, lits, oldest, below_at, below, place_of, lies_below, ArePlaces}
use Rattle.sat_trail.proofs.Members.{same_is, same_self, has_tail}

false_from_ne_true : (b : Bool) → (b ≡ true → ⊥) → b ≡ false
false_from_ne_true true h = absurd (h refl)
false_from_ne_true false h = refl

turned : (a b : ℤ) → int_eq a b ≡ false → int_eq b a ≡ false
turned a b h = false_from_ne_true (int_eq b a) (λ k. false≢true (sym h ∙ same_self a b (sym (same_is b a k))))

-- what is oldest was true all along
pub in_dropped : (n : ℕ) (t : Entries) (x : ℤ) → has (lits (drop n t)) x ≡ true → has (lits t) x ≡ true
in_dropped zero t x h = h
in_dropped (suc n) [] x h = h
in_dropped (suc n) (e ∷ t) x h = has_tail x e.lit (lits t) (in_dropped n t x h)

pub oldest_part : (e : Entry) (t : Entries) (end : ℕ) → end ≤ length t → oldest end (e ∷ t) ≡ oldest end t
oldest_part e t end h = let q : suc (length t) - end ≡ suc (length t - end) = omega arith in ap (λ n. drop n (e ∷ t)) q

pub oldest_whole : (t : Entries) (end : ℕ) → length t ≤ end → oldest end t ≡ t
oldest_whole t end h = let q : length t - end ≡ 0 = omega arith in ap (λ n. drop n t) q

not_below : (end place : ℕ) → end ≤ place → ltb place end ≡ false
not_below end place h = grind arith

is_below : (end place : ℕ) → place < end → ltb place end ≡ true
is_below end place h = grind arith

le_cases : (a b : ℕ) → (a ≤ b) ⊎ (b < a)
le_cases zero b = inl (omega arith)
le_cases (suc a) zero = inr (omega arith)
le_cases (suc a) (suc b) = elim (le_cases a b) [ inl h ↦ inl (omega (arith, h)) | inr h ↦ inr (omega (arith, h)) ]

module _ (t : Entries) (e : Entry) (m now : List ℕ) where
  push_same : ArePlaces t m → has (lits t) e.lit ≡ false → (lit : ℤ) (end : ℕ) → lit ≡ e.lit
      → ltb (length t) end ≡ has (lits (oldest end (e ∷ t))) lit
  push_same p f lit end s = elim (le_cases end (length t)) [
    | inl h ↦ not_below end (length t) h ∙ sym (ap (λ z. has (lits z) lit) (oldest_part e t end h)
        ∙ false_from_ne_true (has (lits (oldest end t)) lit)
        (λ k. false≢true (sym f ∙ ap (has (lits t)) (sym s) ∙ in_dropped (length t - end) t lit k)))
    | inr h ↦ is_below end (length t) h ∙ sym
        (ap (λ z. has (lits z) lit) (oldest_whole (e ∷ t) end (omega (arith, h)))
        ∙ ap (λ b. b || has (lits t) lit) (same_self lit e.lit s))
  ]

  push_other : ArePlaces t m → (lit : ℤ) (end : ℕ) → int_eq lit e.lit ≡ false
      → lies_below end (place_of m lit) ≡ has (lits (oldest end (e ∷ t))) lit
  push_other p lit end s = elim (le_cases end (length t)) [
    | inl h ↦ p.at lit end ∙ sym (ap (λ z. has (lits z) lit) (oldest_part e t end h))
    | inr h ↦ p.at lit end ∙ ap (λ z. has (lits z) lit) (oldest_whole t end (omega (arith, h)))
        ∙ sym (ap (λ z. has (lits z) lit) (oldest_whole (e ∷ t) end (omega (arith, h)))
        ∙ ap (λ b. b || has (lits t) lit) s)
  ]

  -- the newest entry's literal has the last place
  pub pushed : ArePlaces t m → IsLit e.lit → has (lits t) e.lit ≡ false
      → ((lit : ℤ) → place_of now lit ≡ cond (int_eq e.lit lit) (suc (length t)) (place_of m lit))
      → ArePlaces (e ∷ t) now
  pushed p i f g = record {
    fresh = (f, p.fresh);
    all_lits = (i, p.all_lits);
    at = λ lit end. ap (lies_below end) (g lit) ∙ elim (cases_Bool (int_eq e.lit lit)) [
      | inl s ↦ ap (λ b. lies_below end (cond b (suc (length t)) (place_of m lit))) s
          ∙ push_same p f lit end (sym (same_is e.lit lit s))
      | inr s ↦ ap (λ b. lies_below end (cond b (suc (length t)) (place_of m lit))) s
          ∙ push_other p lit end (turned e.lit lit s)
    ];
  }

  -- and where it is taken off, none
  pub popped : ArePlaces (e ∷ t) m → ((lit : ℤ)
      → place_of now lit ≡ cond (int_eq e.lit lit) 0 (place_of m lit)) → ArePlaces t now
  popped p g = record {
    fresh = p.fresh.1;
    all_lits = p.all_lits.1;
    at = λ lit end. ap (lies_below end) (g lit) ∙ elim (cases_Bool (int_eq e.lit lit)) [
      | inl s ↦ ap (λ b. lies_below end (cond b 0 (place_of m lit))) s
          ∙ sym (false_from_ne_true (has (lits (oldest end t)) lit)
          (λ k. false≢true (sym p.fresh.0 ∙ ap (has (lits t)) (same_is e.lit lit s)
          ∙ in_dropped (length t - end) t lit k)))
      | inr s ↦ ap (λ b. lies_below end (cond b 0 (place_of m lit))) s ∙ p.at lit end
          ∙ pop_other lit end (turned e.lit lit s)
    ];
  } where
    pop_other : (lit : ℤ) (end : ℕ) → int_eq lit e.lit ≡ false
        → has (lits (oldest end (e ∷ t))) lit ≡ has (lits (oldest end t)) lit
    pop_other lit end s = elim (le_cases end (length t)) [
      | inl h ↦ ap (λ z. has (lits z) lit) (oldest_part e t end h)
      | inr h ↦ ap (λ z. has (lits z) lit) (oldest_whole (e ∷ t) end (omega (arith, h)))
          ∙ ap (λ b. b || has (lits t) lit) s
          ∙ sym (ap (λ z. has (lits z) lit) (oldest_whole t end (omega (arith, h))))
    ]

-- the same places are those of the same trail
pub unchanged : (t : Entries) (m now : List ℕ) → ArePlaces t m → ((lit : ℤ) → place_of now lit ≡ place_of m lit)
    → ArePlaces t now
unchanged t m now p g = record {
  fresh = p.fresh;
  all_lits = p.all_lits;
  at = λ lit end. ap (lies_below end) (g lit) ∙ p.at lit end;
}

pub none_there : (place end : ℕ) → place ≡ 0 → lies_below end place ≡ false
none_there place end e = ap (lies_below end) e

pub some_there : (place end : ℕ) → (place ≡ 0 → ⊥) → lies_below end place ≡ leb place end
some_there zero end n = absurd (n refl)
some_there (suc place) end n = same where
  same : ltb place end ≡ leb (suc place) end
  same = grind (arith, nat_tests)

below_short_at : (reason : Option ℕ) (t : Entries) → length (below t) ≤ length t
    → length (below_at reason t (below t)) ≤ length t
below_short_at None t h = omega arith
below_short_at (Some place) t h = h

pub below_short : (t : Entries) → length (below t) ≤ length t
below_short [] = omega arith
below_short (e ∷ t) = let h = below_short_at e.reason t (below_short t) in omega (arith, h)

oldest_below_at : (reason : Option ℕ) (e : Entry) (t : Entries) → oldest (length (below t)) t ≡ below t
    → oldest (length (below_at reason t (below t))) (e ∷ t) ≡ below_at reason t (below t)
oldest_below_at None e t h = oldest_part e t (length t) (omega arith) ∙ oldest_whole t (length t) (omega arith)
oldest_below_at (Some place) e t h = oldest_part e t (length (below t)) (below_short t) ∙ h

-- what is older than the newest decision are the oldest entries
pub oldest_below : (t : Entries) → oldest (length (below t)) t ≡ below t
oldest_below [] = refl
oldest_below (e ∷ t) = oldest_below_at e.reason e t (oldest_below t)

placed_at : (t : Entries) (m : List ℕ) → ArePlaces t m → (lit : ℤ) (n : ℕ) → place_of m lit ≡ n
    → not (eqb n 0) ≡ has (lits t) lit
placed_at t m p lit zero e = zero_not ∙ sym (ap (λ z. lies_below (length t) z) e) ∙ p.at lit (length t)
    ∙ ap (λ z. has (lits z) lit) (oldest_whole t (length t) (omega arith)) where
      zero_not : not (eqb 0 0) ≡ lies_below (length t) 0
      zero_not = refl
placed_at t m p lit (suc n) e = some ∙ sym (in_dropped (length t - suc n) t lit
    (sym (p.at lit (suc n)) ∙ ap (λ z. lies_below (suc n) z) e ∙ is_below (suc n) n (omega arith))) where
      some : not (eqb (suc n) 0) ≡ true
      some = ap not (false_from_ne_true (eqb (suc n) 0) (λ h. let z : suc n ≡ 0 = grind (arith, h) in omega (arith, z)))

-- a literal is true where it has a place
pub placed_true : (t : Entries) (m : List ℕ) → ArePlaces t m → (lit : ℤ)
    → not (eqb (place_of m lit) 0) ≡ has (lits t) lit
placed_true t m p lit = placed_at t m p lit (place_of m lit) refl
