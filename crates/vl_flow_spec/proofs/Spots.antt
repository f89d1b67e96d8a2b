-- Bits that are taken of a vector stand among the spots of the same selects.
use Rattle.std.specs.Prelude.{◌≡◌, refl, ℕ, zero, suc, ◌+◌, ◌*◌, ◌/◌, ◌%◌, ◌^◌, ◌<◌, ◌≤◌, ◌==◌, List, [], ◌∷◌, ◌++◌}
use Rattle.std.specs.Prelude.{Bool}
use Rattle.std.specs.Prelude.{true, false, ◌&&◌, ◌||◌, nat_le, nat_lt, Option, Some, None, ℤ, pos, negsuc, ◌+ℤ◌}
use Rattle.std.specs.Prelude.{bytes_eq, if◌then◌else◌}
use Rattle.std.proofs.Common.{ap, sym, ◌∙◌, arith, subst, ◌⊎◌, inl, inr, true≢false}
use Rattle.std.proofs.lemmas.Bool.{cases_lt}
use Rattle.std.proofs.lemmas.Bool.Decides.{nat_tests}
use Rattle.std.proofs.lemmas.Int.{ints}
use Rattle.std.proofs.lemmas.Slice.Eq.{bytes_eq-Decides}
use Rattle.vl_size.specs.Size.{bit_at, bits_from}
use Rattle.vl_mean.specs.Targets.{Spot, bit_of, spot_at, spots_from, has_spot}
use Rattle.vl_flow_spec.proofs.Bools.{or_left, or_right, or_case, and_both, and_left, and_right}

-- ---- a spot among others

pub spot_behind : (n : List ℕ) (k : ℕ) (o : Option Spot) (spots : List (Option Spot)) → has_spot n k spots ≡ true
    → has_spot n k (o ∷ spots) ≡ true
spot_behind n k None spots h = h
spot_behind n k (Some s) spots h = or_right (bytes_eq n s.name && (k == s.offset)) (has_spot n k spots) h

same_number : (k : ℕ) → (k == k) ≡ true
same_number k = grind (arith, nat_tests)

spot_first : (w : ℕ) (n : List ℕ) (k : ℕ) (spots : List (Option Spot)) → k < w
    → has_spot n k (spot_at w (Some n) (pos k) ∷ spots) ≡ true
spot_first w n k spots below = by (nat_lt k w) refl
  where
    by : (b : Bool) → nat_lt k w ≡ b
        → has_spot n k ((if b then Some (record { name = n; offset = k }) else None) ∷ spots) ≡ true
    by true e =
        or_left (bytes_eq n n && (k == k)) (has_spot n k spots)
        (and_both (bytes_eq n n) (k == k) ((bytes_eq-Decides n n).1 refl) (same_number k))
    by false e = absurd (grind (arith, nat_tests))

pub spot_there : (m w : ℕ) (n : List ℕ) (p : ℤ) (j k : ℕ) → j < m → k < w → p +ℤ pos j ≡ pos k
    → has_spot n k (spots_from m w (Some n) p) ≡ true
spot_there zero w n p j k within below e = absurd (omega (arith, within))
spot_there (suc m) w n p j k within below e = by (λ less. spot_there m w n p j k less below e) (cases_lt j m)
  where
    by : (j < m → has_spot n k (spots_from m w (Some n) p) ≡ true) → (j < m) ⊎ (m ≤ j)
        → has_spot n k (spot_at w (Some n) (p +ℤ pos m) ∷ spots_from m w (Some n) p) ≡ true
    by earlier (inl less) =
        spot_behind n k (spot_at w (Some n) (p +ℤ pos m)) (spots_from m w (Some n) p) (earlier less)
    by earlier (inr more) =
        let last : j ≡ m = omega (arith, within, more) in
        let here : p +ℤ pos m ≡ pos k = ap (λ i. p +ℤ pos i) (sym last) ∙ e in
        subst (λ q. has_spot n k (spot_at w (Some n) q ∷ spots_from m w (Some n) p) ≡ true) (sym here)
        (spot_first w n k (spots_from m w (Some n) p) below)

-- the first spot, or one behind it
one_spot : (w : ℕ) (text n : List ℕ) (k : ℕ) (spots : List (Option Spot))
    → (has_spot n k spots ≡ true → (Some text ≡ Some n) × (k < w)) → (q : ℤ)
    → has_spot n k (spot_at w (Some text) q ∷ spots) ≡ true → (Some text ≡ Some n) × (k < w)
one_spot w text n k spots rest (negsuc i) h = rest h
one_spot w text n k spots rest (pos i) h = by (nat_lt i w) refl h
  where
    here : nat_lt i w ≡ true → (bytes_eq n text && (k == i)) ≡ true → (Some text ≡ Some n) × (k < w)
    here below e =
        let same : n ≡ text = (bytes_eq-Decides n text).0 (and_left (bytes_eq n text) (k == i) e) in
        let at_i : (k == i) ≡ true = and_right (bytes_eq n text) (k == i) e in
        (ap Some (sym same), grind (arith, nat_tests, below, at_i))

    by : (b : Bool) → nat_lt i w ≡ b
        → has_spot n k ((if b then Some (record { name = text; offset = i }) else None) ∷ spots) ≡ true
        → (Some text ≡ Some n) × (k < w)
    by true below h = or_case (bytes_eq n text && (k == i)) (has_spot n k spots) (here below) rest h
    by false below h = rest h

-- each spot is a bit of the vector
pub spot_is : (m w : ℕ) (o : Option (List ℕ)) (p : ℤ) (n : List ℕ) (k : ℕ) → has_spot n k (spots_from m w o p) ≡ true
    → (o ≡ Some n) × (k < w)
spot_is zero w o p n k h = absurd (true≢false (sym h))
spot_is (suc m) w None p n k h = spot_is m w None p n k h
spot_is (suc m) w (Some text) p n k h =
    one_spot w text n k (spots_from m w (Some text) p) (spot_is m w (Some text) p n k) (p +ℤ pos m) h

pub spot_append : (n : List ℕ) (k : ℕ) (xs ys : List (Option Spot))
    → has_spot n k (xs ++ ys) ≡ (has_spot n k xs || has_spot n k ys)
spot_append n k [] ys = refl
spot_append n k (None ∷ xs) ys = spot_append n k xs ys
spot_append n k (Some s ∷ xs) ys =
    ap (λ b. (bytes_eq n s.name && (k == s.offset)) || b) (spot_append n k xs ys)
    ∙ assoc (bytes_eq n s.name && (k == s.offset)) (has_spot n k xs) (has_spot n k ys)
  where
    assoc : (a b c : Bool) → (a || (b || c)) ≡ ((a || b) || c)
    assoc true b c = refl
    assoc false b c = refl

-- ---- bits of two numbers

bit_same : (w x y : ℕ) (q : ℤ) → ((k : ℕ) → k < w → q ≡ pos k → bit_of x k ≡ bit_of y k) → bit_at w x q ≡ bit_at w y q
bit_same w x y (pos k) h = by (nat_le w k) refl
  where
    by : (b : Bool) → nat_le w k ≡ b → (if b then 0 else x / 2 ^ k % 2) ≡ (if b then 0 else y / 2 ^ k % 2)
    by true t = refl
    by false t = h k (grind (arith, nat_tests, t)) refl
bit_same w x y (negsuc k) h = refl

from_bits : (m w x y : ℕ) (p : ℤ) → ((j : ℕ) → j < m → bit_at w x (p +ℤ pos j) ≡ bit_at w y (p +ℤ pos j))
    → bits_from m w x p ≡ bits_from m w y p
from_bits zero w x y p h = refl
from_bits (suc m) w x y p h =
    let none : p +ℤ pos 0 ≡ p = omega (arith, ints) in
    let first : bit_at w x p ≡ bit_at w y p =
    subst (λ q. bit_at w x q ≡ bit_at w y q) none (h 0 (omega arith)) in
    let others = from_bits m w x y (p +ℤ pos 1) (λ j less.
    let next : p +ℤ pos (suc j) ≡ (p +ℤ pos 1) +ℤ pos j = omega (arith, ints) in
    subst (λ q. bit_at w x q ≡ bit_at w y q) next (h (suc j) (omega (arith, less)))) in
    λ i. first i + 2 * others i

pub bits_same : (m w x y : ℕ) (n : List ℕ) (p : ℤ)
    → ((k : ℕ) → k < w → has_spot n k (spots_from m w (Some n) p) ≡ true → bit_of x k ≡ bit_of y k)
    → bits_from m w x p ≡ bits_from m w y p
bits_same m w x y n p h =
    from_bits m w x y p (λ j less. bit_same w x y (p +ℤ pos j) (λ k below e.
    h k below (spot_there m w n p j k less below e)))

pub one_bit_same : (w x y : ℕ) (n : List ℕ) (p : ℤ)
    → ((k : ℕ) → k < w → has_spot n k (spots_from 1 w (Some n) p) ≡ true → bit_of x k ≡ bit_of y k)
    → bit_at w x p ≡ bit_at w y p
one_bit_same w x y n p h =
    let none : p +ℤ pos 0 ≡ p = omega (arith, ints) in
    bit_same w x y p (λ k below e. h k below (spot_there 1 w n p 0 k (omega arith) below (none ∙ e)))
