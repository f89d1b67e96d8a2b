-- Maps after writes.
use Rattle.std.specs.Prelude.{◌≡◌, refl, ℕ, ◌<◌, ◌^◌, ◌==◌, List, [], ◌∷◌, Bool, true, false, ◌&&◌, ◌||◌}
use Rattle.std.specs.Prelude.{Option, Some, None, bytes_eq, if◌then◌else◌}
use Rattle.std.proofs.Common.{ap, sym, ◌∙◌, arith, subst}
use Rattle.std.proofs.lemmas.Bool.Decides.{nat_tests}
use Rattle.std.proofs.lemmas.Slice.Eq.{bytes_eq-Decides}
use Rattle.vl_size.specs.declared.decl.Decl.{Decl}
use Rattle.vl_size.specs.Size.{Values}
use Rattle.vl_mean.specs.Runs.{Each}
use Rattle.vl_mean.specs.Targets.{Spot, Write, bit_of, with_bit, put, put_all, written, has_spot}
use Rattle.vl_flow_spec.specs.Reads.{Bits, IsCellOf, AreInRange}
use Rattle.vl_flow_spec.specs.Settle.{IsBitOf}
use Rattle.vl_flow_spec.proofs.Bools.{or_left, or_right, left_none, right_none, and_both}
use Rattle.vl_flow_spec.proofs.Cells.{HaveOwnCells}
use Rattle.vl_flow_spec.proofs.Puts.{bit_here, bit_there, with_bit_fits}

-- some write is to the bit
abbrev pub writes_to : List Write → Bits
writes_to [] n k = false
writes_to (w ∷ ws) n k = (bytes_eq n w.spot.name && (k == w.spot.offset)) || writes_to ws n k

abbrev pub AreSmall : List Write → Type 0
AreSmall ws = Each (λ w. w.value < 2) ws

-- what is written to spots
pub written_to : (spots : List (Option Spot)) (x : ℕ) (n : List ℕ) (k : ℕ)
    → writes_to (written spots x) n k ≡ has_spot n k spots
written_to [] x n k = refl
written_to (None ∷ spots) x n k = written_to spots x n k
written_to (Some s ∷ spots) x n k =
    ap (λ b. (bytes_eq n s.name && (k == s.offset)) || b) (written_to spots x n k)

pub written_small : (spots : List (Option Spot)) (x : ℕ) → AreSmall (written spots x)
written_small [] x = tt
written_small (None ∷ spots) x = written_small spots x
written_small (Some s ∷ spots) x = (omega arith, written_small spots x)

-- a bit after a write
bit_put : (w : Write) (v : Values) (n : List ℕ) (k : ℕ) → w.value < 2
    → bit_of (put w v n) k ≡ (if bytes_eq n w.spot.name && (k == w.spot.offset) then w.value else bit_of (v n) k)
bit_put w v n k small = by (bytes_eq n w.spot.name)
  where
    here : (b : Bool) → (k == w.spot.offset) ≡ b
        → bit_of (with_bit (v n) w.spot.offset w.value) k ≡ (if b then w.value else bit_of (v n) k)
    here true e =
        let same : k ≡ w.spot.offset = grind (arith, nat_tests, e) in
        ap (bit_of (with_bit (v n) w.spot.offset w.value)) same ∙ bit_here (v n) w.spot.offset w.value small
    here false e = bit_there (v n) w.spot.offset w.value k small (grind (arith, nat_tests, e))

    by : (b : Bool) → bit_of (if b then with_bit (v n) w.spot.offset w.value else v n) k
        ≡ (if b && (k == w.spot.offset) then w.value else bit_of (v n) k)
    by true = here (k == w.spot.offset) refl
    by false = refl

chosen_alike : (b : Bool) (x y z : ℕ) → (b ≡ false → y ≡ z) → (if b then x else y) ≡ (if b then x else z)
chosen_alike true x y z f = refl
chosen_alike false x y z f = f refl

-- after the same writes a bit is the same where it was, or where one is to it
pub puts_bit : (ws : List Write) (u v : Values) (n : List ℕ) (k : ℕ) → AreSmall ws
    → (writes_to ws n k ≡ false → bit_of (u n) k ≡ bit_of (v n) k)
    → bit_of (put_all ws u n) k ≡ bit_of (put_all ws v n) k
puts_bit [] u v n k small h = h refl
puts_bit (w ∷ ws) u v n k small h =
    puts_bit ws (put w u) (put w v) n k small.1 (λ e.
    bit_put w u n k small.0
    ∙ chosen_alike (bytes_eq n w.spot.name && (k == w.spot.offset)) w.value (bit_of (u n) k) (bit_of (v n) k)
    (λ f. h (ap (λ b. b || writes_to ws n k) f ∙ e))
    ∙ sym (bit_put w v n k small.0))

-- a bit that no write is to stays
pub puts_stay : (ws : List Write) (v : Values) (n : List ℕ) (k : ℕ) → AreSmall ws → writes_to ws n k ≡ false
    → bit_of (put_all ws v n) k ≡ bit_of (v n) k
puts_stay [] v n k small h = refl
puts_stay (w ∷ ws) v n k small h =
    puts_stay ws (put w v) n k small.1 (right_none (bytes_eq n w.spot.name && (k == w.spot.offset)) (writes_to ws n k) h)
    ∙ bit_put w v n k small.0
    ∙ ap (λ b. if b then w.value else bit_of (v n) k)
    (left_none (bytes_eq n w.spot.name && (k == w.spot.offset)) (writes_to ws n k) h)

module _ (ds : List Decl) (own : HaveOwnCells ds) where
  put_fits : (w : Write) (v : Values) → w.value < 2 → IsBitOf ds w.spot.name w.spot.offset → AreInRange ds v
      → AreInRange ds (put w v)
  put_fits w v small is f d n of counted = by (bytes_eq n w.spot.name) refl
    where
      by : (b : Bool) → bytes_eq n w.spot.name ≡ b
          → (if b then with_bit (v n) w.spot.offset w.value else v n) < 2 ^ d.width
      by true e =
          let same : n ≡ w.spot.name = (bytes_eq-Decides n w.spot.name).0 e in
          let one : d ≡ is.decl = own d is.decl n of (subst (IsCellOf ds is.decl) (sym same) is.of) in
          with_bit_fits (v n) w.spot.offset w.value d.width (f d n of counted)
          (subst (λ x. w.spot.offset < x.width) (sym one) is.below) small
      by false e = f d n of counted

  pub puts_fit : (ws : List Write) (v : Values) → AreSmall ws
      → ((n : List ℕ) (k : ℕ) → writes_to ws n k ≡ true → IsBitOf ds n k) → AreInRange ds v → AreInRange ds (put_all ws v)
  puts_fit [] v small are f = f
  puts_fit (w ∷ ws) v small are f =
      puts_fit ws (put w v) small.1
      (λ n k h. are n k (or_right (bytes_eq n w.spot.name && (k == w.spot.offset)) (writes_to ws n k) h))
      (put_fits w v small.0 (are w.spot.name w.spot.offset first) f)
    where
      same : (k : ℕ) → (k == k) ≡ true
      same k = grind (arith, nat_tests)

      first : writes_to (w ∷ ws) w.spot.name w.spot.offset ≡ true
      first =
          or_left (bytes_eq w.spot.name w.spot.name && (w.spot.offset == w.spot.offset))
          (writes_to ws w.spot.name w.spot.offset)
          (and_both (bytes_eq w.spot.name w.spot.name) (w.spot.offset == w.spot.offset)
          ((bytes_eq-Decides w.spot.name w.spot.name).1 refl) (same w.spot.offset))
