-- For drivers in an order in which each stands behind what it reads: one map for each choice of the bits that none
-- drives.
use Rattle.std.specs.Prelude.{◌≡◌, refl, ℕ, List, [], ◌∷◌, Bool, true, false, ◌||◌}
use Rattle.std.proofs.Common.{sym, ◌∙◌}
use Rattle.vl_size.specs.Size.{Values}
use Rattle.vl_mean.specs.Targets.{bit_of}
use Rattle.vl_flow_spec.specs.Reads.{Bits, Covers}
use Rattle.vl_flow_spec.specs.Drivers.{Apart}
use Rattle.vl_flow_spec.proofs.Alike.{◌∪◌}
use Rattle.vl_flow_spec.proofs.Bools.{or_left, or_right, or_none, left_none, right_none, not_both}

-- the bits that a driver reads, those that it drives, and what it makes of a map
pub record Stage : Type 0 where
  pub needs : Bits
  pub drives : Bits
  pub step : Values → Values

abbrev pub driven : List Stage → Bits
driven [] = λ n k. false
driven (p ∷ ps) = p.drives ∪ driven ps

-- each stands behind what drives what it reads, and no two drive one bit
abbrev pub IsOrdered : List Stage → Type 0
IsOrdered [] = Unit {0}
IsOrdered (p ∷ ps) = Apart p.needs (p.drives ∪ driven ps) × Apart p.drives (driven ps) × IsOrdered ps

-- one after the other
abbrev pub settle : List Stage → Values → Values
settle [] v = v
settle (p ∷ ps) v = settle ps (p.step v)

-- what maps are looked at, and which bits are there
module _ (Ok : Values → Type 0) (Here : List ℕ → ℕ → Type 0) where
  -- the maps have the bits in common
  abbrev pub Agree : Bits → Values → Values → Type 0
  Agree K u v = (n : List ℕ) (k : ℕ) → Here n k → K n k ≡ true → bit_of (u n) k ≡ bit_of (v n) k

  pub record IsPart (p : Stage) : Type 0 where
    pub ok : (v : Values) → Ok v → Ok (p.step v)
    pub same : (K : Bits) (u v : Values) → Ok u → Ok v → Covers K p.needs → Agree K u v
        → Agree (K ∪ p.drives) (p.step u) (p.step v)
    pub stays : (v : Values) (n : List ℕ) (k : ℕ) → Ok v → Here n k → p.drives n k ≡ false
        → bit_of (p.step v n) k ≡ bit_of (v n) k

  abbrev pub AreParts : List Stage → Type 0
  AreParts [] = Unit {0}
  AreParts (p ∷ ps) = IsPart p × AreParts ps

  -- a map that the part makes no other
  abbrev pub Meets : Values → List Stage → Type 0
  Meets v [] = Unit {0}
  Meets v (p ∷ ps) = Agree p.drives (p.step v) v × Meets v ps

  -- two maps that all parts leave, and that have the bits in common that none drives, are one
  pub one_map : (ps : List Stage) (K : Bits) (u v : Values) → AreParts ps → IsOrdered ps → Ok u → Ok v → Meets u ps
      → Meets v ps → ((n : List ℕ) (k : ℕ) → driven ps n k ≡ false → K n k ≡ true) → Agree K u v
      → (n : List ℕ) (k : ℕ) → Here n k → bit_of (u n) k ≡ bit_of (v n) k
  one_map [] K u v are o ok_u ok_v m l known h = λ n k here. h n k here (known n k refl)
  one_map (p ∷ ps) K u v are o ok_u ok_v m l known h =
      let after = are.0.same K u v ok_u ok_v (λ n k e. known n k (o.0 n k e)) h in
      one_map ps (K ∪ p.drives) u v are.1 o.2 ok_u ok_v m.1 l.1
      (λ n k none. more (K n k) (p.drives n k) (λ e. known n k (or_none (p.drives n k) (driven ps n k) e none)))
      (λ n k here e. by n k here (p.drives n k) refl (K n k) refl e (after n k here e))
    where
      more : (a b : Bool) → (b ≡ false → a ≡ true) → (a || b) ≡ true
      more a true f = or_right a true refl
      more a false f = or_left a false (f refl)

      by : (n : List ℕ) (k : ℕ) → Here n k → (b : Bool) → p.drives n k ≡ b → (a : Bool) → K n k ≡ a
          → (K n k || p.drives n k) ≡ true
          → bit_of (p.step u n) k ≡ bit_of (p.step v n) k → bit_of (u n) k ≡ bit_of (v n) k
      by n k here true e a f g after = sym (m.0 n k here e) ∙ after ∙ l.0 n k here e
      by n k here false e true f g after = h n k here f
      by n k here false e false f g after =
          not_both (K n k || p.drives n k) g (or_none (K n k) (p.drives n k) f e)

  pub settle_ok : (ps : List Stage) (v : Values) → AreParts ps → Ok v → Ok (settle ps v)
  settle_ok [] v are h = h
  settle_ok (p ∷ ps) v are h = settle_ok ps (p.step v) are.1 (are.0.ok v h)

  -- a bit that none drives stays
  pub settle_stays : (ps : List Stage) (v : Values) (n : List ℕ) (k : ℕ) → AreParts ps → Ok v → Here n k
      → driven ps n k ≡ false → bit_of (settle ps v n) k ≡ bit_of (v n) k
  settle_stays [] v n k are h here none = refl
  settle_stays (p ∷ ps) v n k are h here none =
      settle_stays ps (p.step v) n k are.1 (are.0.ok v h) here (right_none (p.drives n k) (driven ps n k) none)
      ∙ are.0.stays v n k h here (left_none (p.drives n k) (driven ps n k) none)

  -- what comes out is left by all parts
  pub settled : (ps : List Stage) (v : Values) → AreParts ps → IsOrdered ps → Ok v → Meets (settle ps v) ps
  settled [] v are o h = tt
  settled (p ∷ ps) v are o h =
      let first = p.step v in
      let last = settle ps first in
      let ok = are.0.ok v h in
      let ok_last = settle_ok ps first are.1 ok in
      let needed : Agree p.needs last v =
      λ n k here e.
      settle_stays ps first n k are.1 ok here (right_none (p.drives n k) (driven ps n k) (o.0 n k e))
      ∙ are.0.stays v n k h here (left_none (p.drives n k) (driven ps n k) (o.0 n k e)) in (
        λ n k here e.
            are.0.same p.needs last v ok_last h (λ a b c. c) needed n k here (or_right (p.needs n k) (p.drives n k) e)
            ∙ sym (settle_stays ps first n k are.1 ok here (o.1 n k e)),
        settled ps first are.1 o.2 ok,
      )
