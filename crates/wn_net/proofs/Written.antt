-- Words after writes.
use Rattle.std.specs.Prelude.{ℕ, zero, suc, ◌<◌, ◌^◌, ◌==◌, Bool, true, false, List, [], ◌∷◌, slice_set}
use Rattle.std.specs.Prelude.{if◌then◌else◌, bit_and}
use Rattle.std.proofs.Common.{arith}
use Rattle.std.proofs.lemmas.Nat.{or_lt, and_le_r}
use Rattle.fv_bits.specs.Bits.{masked, complement}
use Rattle.wn_net.specs.Value.{word_at}
use Rattle.wn_net.specs.Next.{written}

pub set_below : (xs : List ℕ) (i n w : ℕ) → ((k : ℕ) → word_at xs k < 2 ^ w) → n < 2 ^ w → (k : ℕ)
    → word_at (slice_set xs i n) k < 2 ^ w
set_below [] i n w h few k = h k
set_below (x ∷ xs) zero n w h few zero = few
set_below (x ∷ xs) zero n w h few (suc k) = h (suc k)
set_below (x ∷ xs) (suc i) n w h few zero = h 0
set_below (x ∷ xs) (suc i) n w h few (suc k) = set_below xs i n w (λ k. h (suc k)) few k

pub masked_fits : (w mask from to : ℕ) → from < 2 ^ w → to < 2 ^ w → masked w mask from to < 2 ^ w
masked_fits w mask from to h k = or_lt w (bit_and mask to) (bit_and (complement w mask) from)
    (omega (arith, and_le_r mask to, k)) (omega (arith, and_le_r (complement w mask) from, h))

pub written_below : (w : ℕ) (xs : List ℕ) (enable address mask number : ℕ) → ((k : ℕ) → word_at xs k < 2 ^ w)
    → number < 2 ^ w
    → (k : ℕ) → word_at (written w xs enable address mask number) k < 2 ^ w
written_below w xs enable address mask number h few k = by (enable == 1)
  where
    by : (b : Bool) → word_at (if b then slice_set xs address (masked w mask (word_at xs address) number) else xs) k
        < 2 ^ w
    by true = set_below xs address (masked w mask (word_at xs address) number) w h
        (masked_fits w mask (word_at xs address) number (h address) few) k
    by false = h k
