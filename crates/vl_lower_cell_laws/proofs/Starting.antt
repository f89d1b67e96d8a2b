-- The bits that writes leave.
use Rattle.std.specs.Prelude.{◌≡◌, refl, ℕ, ◌<◌, ◌==◌, List, [], ◌∷◌, Bool, true, false, ◌&&◌, Option, Some, None}
use Rattle.std.specs.Prelude.{bytes_eq}
use Rattle.std.specs.Prelude.{if◌then◌else◌}
use Rattle.std.proofs.Common.{ap, ◌∙◌, arith}
use Rattle.std.proofs.lemmas.Bool.Decides.{nat_tests}
use Rattle.vl_size.specs.Size.{Values}
use Rattle.vl_mean.specs.Runs.{is_spot, last_value, later_or}
use Rattle.vl_mean.specs.Targets.{Write, bit_of, put, with_bit}
use Rattle.vl_flow_spec.proofs.Puts.{bit_here, bit_there}
use Rattle.vl_lower_cell_laws.specs.Keeps.{WritesLeaveLast, value_or}

-- one write
one_left : (w : Write) (v : Values) (n : List ℕ) (k : ℕ) → w.value < 2
    → bit_of (put w v n) k ≡ value_or (if is_spot w n k then Some w.value else None) (bit_of (v n) k)
one_left w v n k small = by (bytes_eq n w.spot.name) (k == w.spot.offset) refl
  where
    by : (b c : Bool) → (k == w.spot.offset) ≡ c
        → bit_of (if b then with_bit (v n) w.spot.offset w.value else v n) k
        ≡ value_or (if b && c then Some w.value else None) (bit_of (v n) k)
    by true true e =
        let same : k ≡ w.spot.offset = grind (arith, nat_tests, e) in
        ap (bit_of (with_bit (v n) w.spot.offset w.value)) same ∙ bit_here (v n) w.spot.offset w.value small
    by true false e =
        let other : k ≡ w.spot.offset → ⊥ = λ s. grind (arith, nat_tests, e, s) in
        bit_there (v n) w.spot.offset w.value k small other
    by false c e = refl

pub leave_last : WritesLeaveLast
leave_last [] v n k small = refl
leave_last (w ∷ ws) v n k small =
    leave_last ws (put w v) n k small.1 ∙ by (last_value ws n k) (one_left w v n k small.0)
  where
    by : (o : Option ℕ)
        → bit_of (put w v n) k ≡ value_or (if is_spot w n k then Some w.value else None) (bit_of (v n) k)
        → value_or o (bit_of (put w v n) k)
        ≡ value_or (later_or o (if is_spot w n k then Some w.value else None)) (bit_of (v n) k)
    by (Some y) h = refl
    by None h = h
