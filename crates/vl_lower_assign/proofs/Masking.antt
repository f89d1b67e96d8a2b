-- Bits put into a vector by a mask, and bits moved to their place.
use Rattle.std.specs.Prelude.{◌≡◌, refl, ℕ, zero, suc, ◌+◌, ◌-◌, ◌*◌, ◌/◌, ◌%◌, ◌^◌, ◌<◌, ◌≤◌, min, max, Bool, true}
use Rattle.std.specs.Prelude.{false}
use Rattle.std.specs.Prelude.{nat_le, if◌then◌else◌, bit_and, bit_or, ℤ, pos, negsuc, ◌+ℤ◌, ◌-ℤ◌}
use Rattle.std.proofs.Common.{ap, sym, ◌∙◌, arith, ◌⊎◌, inl, inr}
use Rattle.std.proofs.Math.Nat.{div-one}
use Rattle.std.proofs.lemmas.Bool.{cases_lt}
use Rattle.std.proofs.lemmas.Bool.Decides.{nat_tests}
use Rattle.std.proofs.lemmas.Int.{ints}
use Rattle.std.proofs.lemmas.Nat.{pow_pos, and_le_r}
use Rattle.std.proofs.lemmas.Nat.Bits.{bit_at_and, bit_at_or, bit_at_ones, bit_at-zero, bit_at-suc}
use Rattle.std.proofs.lemmas.Nat.Bits.{same_from_bits_below}
use Rattle.fv_bits.specs.Bits.{ones, complement, masked}
use Rattle.fv_bits.proofs.SingleBits.{bit_at_complement}
use Rattle.wn_net.proofs.Written.{masked_fits}
use Rattle.vl_size.specs.Size.{bit_at, bits_from}
use Rattle.vl_mean.specs.Targets.{bit_of}
use Rattle.vl_lower_assign.specs.Puts.{put_bits}
use Rattle.vl_lower_assign.proofs.Spliced.{put_fits, inside, outside}

-- ---- bits from a place on

at_small : (w x : ℕ) (q : ℤ) → bit_at w x q < 2
at_small w x (pos k) = by (nat_le w k)
  where
    by : (b : Bool) → (if b then 0 else x / 2 ^ k % 2) < 2
    by true = omega arith
    by false = omega arith
at_small w x (negsuc k) = omega arith

from_fits : (c w x : ℕ) (q : ℤ) → bits_from c w x q < 2 ^ c
from_fits zero w x q = omega arith
from_fits (suc c) w x q =
    let twice : 2 ^ suc c ≡ 2 * 2 ^ c = omega arith in
    omega (arith, twice, at_small w x q, from_fits c w x (q +ℤ pos 1))

from_bit : (c w x : ℕ) (q : ℤ) (j : ℕ) → j < c → bit_of (bits_from c w x q) j ≡ bit_at w x (q +ℤ pos j)
from_bit zero w x q j less = absurd (omega (arith, less))
from_bit (suc c) w x q zero less =
    let none : q +ℤ pos 0 ≡ q = omega (arith, ints) in
    ap (λ n. n % 2) (div-one (bit_at w x q + 2 * bits_from c w x (q +ℤ pos 1)))
    ∙ omega (arith, at_small w x q) ∙ ap (bit_at w x) (sym none)
from_bit (suc c) w x q (suc j) less =
    let r = bits_from c w x (q +ℤ pos 1) in
    let half : (bit_at w x q + 2 * r) / 2 ≡ r = omega (arith, at_small w x q) in
    let next : (q +ℤ pos 1) +ℤ pos j ≡ q +ℤ pos (suc j) = omega (arith, ints) in
    bit_at-suc (bit_at w x q + 2 * r) j ∙ ap (λ n. bit_of n j) half ∙ from_bit c w x (q +ℤ pos 1) j (omega (arith, less))
    ∙ ap (bit_at w x) next

-- ---- which bits are put

-- the bit is the one of these numbers of those that are put, or none of them
data Put (n : ℕ) (p : ℤ) (j : ℕ) : Type 0 where
  at : (i : ℕ) → i < n → pos j ≡ p +ℤ pos i → Put n p j
  apart : ((i : ℕ) → i < n → pos j ≡ p +ℤ pos i → ⊥) → Put n p j

decided : (n : ℕ) (p : ℤ) (j : ℕ) → Put n p j
decided n p j = by ((pos 0 -ℤ p) +ℤ pos j) refl
  where
    by : (q : ℤ) → (pos 0 -ℤ p) +ℤ pos j ≡ q → Put n p j
    by (pos i) e = where_less (cases_lt i n)
      where
        where_less : (i < n) ⊎ (n ≤ i) → Put n p j
        where_less (inl l) = at i l (omega (arith, ints, e))
        where_less (inr l) = apart (λ k less f. let same : k ≡ i = omega (arith, ints, e, f) in omega (arith, l, less, same))
    by (negsuc i) e = apart (λ k less f. omega (arith, ints, e, f))

-- ---- bits moved to their place

at_within : (w x k : ℕ) → k < w → bit_at w x (pos k) ≡ bit_of x k
at_within w x k less = by (nat_le w k) refl
  where
    by : (b : Bool) → nat_le w k ≡ b → (if b then 0 else x / 2 ^ k % 2) ≡ bit_of x k
    by true t = let past : w ≤ k = grind (arith, nat_tests, t) in absurd (omega (arith, past, less))
    by false t = refl

at_none : (w x : ℕ) (q : ℤ) → ((k : ℕ) → k < w → q ≡ pos k → ⊥) → bit_at w x q ≡ 0
at_none w x (negsuc k) h = refl
at_none w x (pos k) h = by (nat_le w k) refl
  where
    by : (b : Bool) → nat_le w k ≡ b → (if b then 0 else x / 2 ^ k % 2) ≡ 0
    by true t = refl
    by false t = let under : k < w = grind (arith, nat_tests, t) in absurd (h k under refl)

pub moved_is : (n w : ℕ) (p : ℤ) (y : ℕ) → bits_from w n y (pos 0 -ℤ p) ≡ put_bits n w p y 0
moved_is n w p y =
    same_from_bits_below w (bits_from w n y (pos 0 -ℤ p)) (put_bits n w p y 0) (from_fits w n y (pos 0 -ℤ p))
    (put_fits n w p y 0 (pow_pos w)) (λ j less. from_bit w n y (pos 0 -ℤ p) j less ∙ each j less (decided n p j))
  where
    each : (j : ℕ) → j < w → Put n p j → bit_at n y ((pos 0 -ℤ p) +ℤ pos j) ≡ bit_of (put_bits n w p y 0) j
    each j less (at i few e) =
        let here : (pos 0 -ℤ p) +ℤ pos j ≡ pos i = omega (arith, ints, e) in
        ap (bit_at n y) here ∙ at_within n y i few ∙ sym (inside n w p y 0 j i less few e)
    each j less (apart none) =
        at_none n y ((pos 0 -ℤ p) +ℤ pos j) (λ k few e. none k few (omega (arith, ints, e)))
        ∙ sym (outside n w p y 0 j none ∙ bit_at-zero j)

-- ---- bits put in by a mask

-- the mask of where they stand
abbrev pub mask_of : ℕ → ℕ → ℤ → ℕ
mask_of n w p = put_bits n w p (ones n) 0

mask_fits : (n w : ℕ) (p : ℤ) → mask_of n w p < 2 ^ w
mask_fits n w p = put_fits n w p (ones n) 0 (pow_pos w)

full_bit : (b c : ℕ) → b < 2 → max (min 1 b) (min (1 - 1) c) ≡ b
full_bit b c small = omega (arith, small)

clear_bit : (b c : ℕ) → c < 2 → max (min 0 b) (min (1 - 0) c) ≡ c
clear_bit b c small = omega (arith, small)

bit_small : (x j : ℕ) → bit_of x j < 2
bit_small x j = omega arith

masked_bit : (w m x z j : ℕ) → m < 2 ^ w → j < w
    → bit_of (masked w m x z) j ≡ max (min (bit_of m j) (bit_of z j)) (min (1 - bit_of m j) (bit_of x j))
masked_bit w m x z j fits less =
    bit_at_or (bit_and m z) (bit_and (complement w m) x) j
    ∙ (λ i. max (bit_at_and m z j i) ((bit_at_and (complement w m) x j
    ∙ ap (λ b. min b (bit_of x j)) (bit_at_complement w m j fits less)) i))

pub masked_is : (n w : ℕ) (p : ℤ) (y x : ℕ) → x < 2 ^ w
    → masked w (mask_of n w p) x (put_bits n w p y 0) ≡ put_bits n w p y x
masked_is n w p y x fits =
    let m = mask_of n w p in
    let z = put_bits n w p y 0 in
    let z_fits = put_fits n w p y 0 (pow_pos w) in
    same_from_bits_below w (masked w m x z) (put_bits n w p y x) (masked_fits w m x z fits z_fits)
    (put_fits n w p y x fits) (λ j less. masked_bit w m x z j (mask_fits n w p) less ∙ each j less (decided n p j))
  where
    each : (j : ℕ) → j < w → Put n p j
        → max (min (bit_of (mask_of n w p) j) (bit_of (put_bits n w p y 0) j)) (min (1 - bit_of (mask_of n w p) j) (bit_of x j))
        ≡ bit_of (put_bits n w p y x) j
    each j less (at i few e) =
        let m_is = inside n w p (ones n) 0 j i less few e ∙ bit_at_ones n i few in
        let z_is = inside n w p y 0 j i less few e in
        (λ k. max (min (m_is k) (z_is k)) (min (1 - m_is k) (bit_of x j)))
        ∙ full_bit (bit_of y i) (bit_of x j) (bit_small y i) ∙ sym (inside n w p y x j i less few e)
    each j less (apart none) =
        let m_is = outside n w p (ones n) 0 j none ∙ bit_at-zero j in
        (λ k. max (min (m_is k) (bit_of (put_bits n w p y 0) j)) (min (1 - m_is k) (bit_of x j)))
        ∙ clear_bit (bit_of (put_bits n w p y 0) j) (bit_of x j) (bit_small x j) ∙ sym (outside n w p y x j none)

-- bits that are 0 outside the mask need no mask
pub unmasked : (n w : ℕ) (p : ℤ) (y x : ℕ)
    → bit_or (put_bits n w p y 0) (bit_and (complement w (mask_of n w p)) x)
    ≡ masked w (mask_of n w p) x (put_bits n w p y 0)
unmasked n w p y x =
    ap (λ z. bit_or z (bit_and (complement w (mask_of n w p)) x))
    (same_from_bits_below w (put_bits n w p y 0) (bit_and (mask_of n w p) (put_bits n w p y 0))
    (put_fits n w p y 0 (pow_pos w)) (and_fits (put_fits n w p y 0 (pow_pos w)))
    (λ j less. each j less (decided n p j) ∙ sym (bit_at_and (mask_of n w p) (put_bits n w p y 0) j)))
  where
    and_fits : put_bits n w p y 0 < 2 ^ w → bit_and (mask_of n w p) (put_bits n w p y 0) < 2 ^ w
    and_fits h = omega (arith, and_le_r (mask_of n w p) (put_bits n w p y 0), h)

    each : (j : ℕ) → j < w → Put n p j
        → bit_of (put_bits n w p y 0) j ≡ min (bit_of (mask_of n w p) j) (bit_of (put_bits n w p y 0) j)
    each j less (at i few e) =
        let m_is = inside n w p (ones n) 0 j i less few e ∙ bit_at_ones n i few in
        let small = bit_small (put_bits n w p y 0) j in omega (arith, m_is, small)
    each j less (apart none) =
        let m_is = outside n w p (ones n) 0 j none ∙ bit_at-zero j in
        let z_is = outside n w p y 0 j none ∙ bit_at-zero j in omega (arith, m_is, z_is)
