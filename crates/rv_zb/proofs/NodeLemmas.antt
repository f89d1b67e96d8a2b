-- Bits of words, as nodes compute them.
use Rattle.std.proofs.Common.{◌≡◌, ℕ, ◌/◌, ◌^◌, ◌<◌, refl, arith, Bool, true, false, ◌&&◌, bit_and}
use Rattle.std.proofs.lemmas.Nat.{one_shl}
use Rattle.fv_bits.specs.Bits.{bit, part, shifted_left}
use Rattle.rv_words.proofs.WordLemmas.{low_part}

pub alone_is : (k : ℕ) → k < 2 ^ 5 → shifted_left 32 1 k ≡ 2 ^ k
alone_is k h = one_shl k 32 (omega (arith, h))

pub extracted_is : (n k : ℕ) → part 0 1 (n / 2 ^ k) ≡ part k 1 n
extracted_is n k = low_part (n / 2 ^ k) 1

pub three_are : (a b c : Bool) → bit_and (bit a) (bit_and (bit b) (bit c)) ≡ bit (a && (b && (c && true)))
three_are true true true = refl
three_are true true false = refl
three_are true false true = refl
three_are true false false = refl
three_are false true true = refl
three_are false true false = refl
three_are false false true = refl
three_are false false false = refl
