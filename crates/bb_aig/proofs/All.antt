-- The laws, gathered.
use Rattle.std.specs.Prelude.{◌≡◌, ◌*◌, ◌^◌, false, ◌++◌, length, replicate}
use Rattle.std.proofs.Common.{ap, ◌∙◌, arith}
use Rattle.bb_aig.specs.Bits.{number}
use Rattle.bb_aig.specs.Laws.{BitsAreBitwise, BitsAreSums, BitsAreOrdered, BitsAreShifted, BitsArePlaced}
use Rattle.bb_aig.proofs.Numbers.{number_fits, number-append, number_zeros, number_joined, number_complement}
use Rattle.bb_aig.proofs.Numbers.{number_and, number_or, number_xor}
use Rattle.bb_aig.proofs.Moves.{number_part, number_shifted}
use Rattle.bb_aig.proofs.Rights.{number_shifted_right, number_arithmetic}
use Rattle.bb_aig.proofs.Sums.{number_sum, number_difference, number_product}
use Rattle.bb_aig.proofs.Orders.{number_eq, number_ult, number_nonzero}
use Rattle.bb_aig.proofs.Signs.{number_slt, number_sext}

pub bitwise : BitsAreBitwise
bitwise = record { turned = number_complement; both = number_and; either = number_or; one = number_xor }

pub sums : BitsAreSums
sums = record { added = number_sum; taken = number_difference; multiplied = number_product }

pub ordered : BitsAreOrdered
ordered = record { same = number_eq; less = number_ult; less_signed = number_slt; other_than_0 = number_nonzero }

pub shifted : BitsAreShifted
shifted = record { left = number_shifted; right = number_shifted_right; right_by_sign = number_arithmetic }

pub placed : BitsArePlaced
placed = record {
  fits = number_fits;
  part = number_part;
  joined = number_joined;
  zeros = λ k xs.
      let z : number (replicate k false) * 2 ^ length xs ≡ 0 = ap (λ n. n * 2 ^ length xs) (number_zeros k)
      ∙ omega arith in
      number-append xs (replicate k false) ∙ omega (arith, z);
  signs = number_sext;
}
