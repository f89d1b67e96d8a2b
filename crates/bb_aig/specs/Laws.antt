-- Between functions: What operators on lists of bits make of the numbers of the lists. Rule of this project.
use Rattle.std.specs.Prelude.{
  ◌≡◌,
  ℕ,
  ◌+◌,
  ◌==◌,
  ◌<◌,
  ◌≤◌,
  ◌^◌,
  nat_lt,
  bit_and,
  bit_or,
  bit_xor,
}
use Rattle.std.specs.Prelude.{
  Bool,
  true,
  false,
  not,
  ◌&&◌,
  ◌||◌,
  List,
  ◌++◌,
  length,
  take,
  drop,
  map,
  replicate,
}
use Rattle.fv_bits.specs.Bits as bits
use Rattle.bb_aig.specs.Bits.{number, differ, pick, paired, add_bits, less_bits, same_bits, any_bit, mul_bits}
use Rattle.bb_aig.specs.Bits.{shl_bits}
use Rattle.bb_aig.specs.Bits.{shr_bits, top, turned_top}

-- each bit by itself
pub record BitsAreBitwise : Type 0 where
  pub turned : (xs : List Bool) → number (map not xs) ≡ bits.complement (length xs) (number xs)
  pub both : (xs ys : List Bool) → length xs ≡ length ys
      → number (paired (λ x y. x && y) xs ys) ≡ bit_and (number xs) (number ys)
  pub either : (xs ys : List Bool) → length xs ≡ length ys
      → number (paired (λ x y. x || y) xs ys) ≡ bit_or (number xs) (number ys)
  pub one : (xs ys : List Bool) → length xs ≡ length ys
      → number (paired differ xs ys) ≡ bit_xor (number xs) (number ys)

-- sums, differences and products, cut to the width
pub record BitsAreSums : Type 0 where
  pub added : (xs ys : List Bool) → length ys ≡ length xs
      → number (add_bits false xs ys) ≡ bits.sum (length xs) (number xs) (number ys)
  pub taken : (xs ys : List Bool) → length ys ≡ length xs
      → number (add_bits true xs (map not ys)) ≡ bits.difference (length xs) (number xs) (number ys)
  pub multiplied : (xs ys : List Bool)
      → number (mul_bits (replicate (length xs) false) xs ys) ≡ bits.product (length xs) (number xs) (number ys)

-- comparisons, and whether a number is other than 0
pub record BitsAreOrdered : Type 0 where
  pub same : (xs ys : List Bool) → length ys ≡ length xs → same_bits true xs ys ≡ (number xs == number ys)
  pub less : (xs ys : List Bool) → length ys ≡ length xs
      → less_bits false xs ys ≡ nat_lt (number xs) (number ys)
  pub less_signed : (xs ys : List Bool) → 1 ≤ length xs → length ys ≡ length xs
      → less_bits false (turned_top xs) (turned_top ys) ≡ bits.is_less_signed (length xs) (number xs) (number ys)
  pub other_than_0 : (xs : List Bool) → any_bit false xs ≡ not (number xs == 0)

-- shifts by a number of any width
pub record BitsAreShifted : Type 0 where
  pub left : (xs ys : List Bool)
      → number (shl_bits 1 xs ys) ≡ bits.shifted_left (length xs) (number xs) (number ys)
  pub right : (xs ys : List Bool) → number (shr_bits false 1 xs ys) ≡ bits.shifted_right (number xs) (number ys)
  pub right_by_sign : (xs ys : List Bool) → 1 ≤ length xs
      → number (shr_bits (top xs) 1 xs ys) ≡ bits.arithmetic_right (length xs) (number xs) (number ys)

-- parts, joins and extensions
pub record BitsArePlaced : Type 0 where
  pub fits : (xs : List Bool) → number xs < 2 ^ length xs
  pub part : (at w : ℕ) (xs : List Bool) → at + w ≤ length xs
      → number (take w (drop at xs)) ≡ bits.part at w (number xs)
  pub joined : (xs ys : List Bool) → number (ys ++ xs) ≡ bits.joined (length ys) (number xs) (number ys)
  pub zeros : (k : ℕ) (xs : List Bool) → number (xs ++ replicate k false) ≡ number xs
  pub signs : (k : ℕ) (xs : List Bool) → 1 ≤ length xs
      → number (xs ++ replicate k (top xs)) ≡ bits.sign_extended (length xs) (length xs + k) (number xs)
