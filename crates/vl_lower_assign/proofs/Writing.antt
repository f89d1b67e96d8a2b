-- Bits of numbers written to bits of targets.
use Rattle.std.specs.Prelude.{◌≡◌, refl, ℕ, zero, suc, ◌+◌, ◌/◌, ◌%◌, ◌^◌, ◌<◌, List, [], ◌∷◌, ◌++◌, length, Option}
use Rattle.std.specs.Prelude.{Some, None, ℤ, if◌then◌else◌}
use Rattle.std.proofs.Common.{ap, sym, ◌∙◌, arith, length-append}
use Rattle.std.proofs.lemmas.Nat.{shr-shr}
use Rattle.fv_bits.proofs.SingleBits.{bit_at_low}
use Rattle.vl_size.specs.Size.{Values}
use Rattle.vl_mean.specs.Targets.{Spot, Write, bit_of, spots_from, written, put, put_all}
use Rattle.vl_lower_assign.specs.Puts.{put_bits}
use Rattle.vl_lower_assign.proofs.Assigned.{assigned}
use Rattle.vl_lower_assign.specs.Frames.{is_named}

pub puts_append : (ps ws : List Write) (v : Values) → put_all (ps ++ ws) v ≡ put_all ws (put_all ps v)
puts_append [] ws v = refl
puts_append (p ∷ ps) ws v = puts_append ps ws (put p v)

-- the bits of both, one behind the other
pub written_append : (xs ys : List (Option Spot)) (z : ℕ)
    → written (xs ++ ys) z ≡ written xs (z / 2 ^ length ys) ++ written ys z
written_append [] ys z = refl
written_append (None ∷ xs) ys z = written_append xs ys z
written_append (Some s ∷ xs) ys z =
    let long : length (xs ++ ys) ≡ length ys + length xs = length-append xs ys ∙ omega arith in
    let same : bit_of z (length (xs ++ ys)) ≡ bit_of (z / 2 ^ length ys) (length xs) =
    ap (bit_of z) long ∙ ap (λ n. n % 2) (sym (shr-shr z (length ys) (length xs))) in
    λ i. record { spot = s; value = same i } ∷ written_append xs ys z i

-- the bits above them don't matter
pub written_low : (xs : List (Option Spot)) (n z : ℕ) → length xs ≡ n → written xs (z % 2 ^ n) ≡ written xs z
written_low xs n z e = each xs n (omega (arith, e))
  where
    each : (xs : List (Option Spot)) (n : ℕ) → length xs < n + 1 → written xs (z % 2 ^ n) ≡ written xs z
    each [] n h = refl
    each (None ∷ xs) n h = each xs n (omega (arith, h))
    each (Some s ∷ xs) n h =
        let same : bit_of (z % 2 ^ n) (length xs) ≡ bit_of z (length xs) = bit_at_low n z (length xs) (omega (arith, h)) in
        λ i. record { spot = s; value = same i } ∷ each xs n (omega (arith, h)) i

pub spots_count : (n w : ℕ) (text : Option (List ℕ)) (p : ℤ) → length (spots_from n w text p) ≡ n
spots_count zero w text p = refl
spots_count (suc n) w text p = ap suc (spots_count n w text p)

-- no name, no bits
none_written : (n w : ℕ) (p : ℤ) (z : ℕ) → written (spots_from n w None p) z ≡ []
none_written zero w p z = refl
none_written (suc n) w p z = none_written n w p z

-- each name after bits of one were written
pub puts_at : (n w : ℕ) (text : Option (List ℕ)) (p : ℤ) (z : ℕ) (v : Values) (other : List ℕ)
    → put_all (written (spots_from n w text p) z) v other
    ≡ (if is_named text other then put_bits n w p z (v other) else v other)
puts_at n w None p z v other = ap (λ ws. put_all ws v other) (none_written n w p z)
puts_at n w (Some text) p z v other = assigned n w text p z v other
