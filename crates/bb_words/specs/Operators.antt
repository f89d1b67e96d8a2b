-- Between functions: What operators make of numbers of a width. IEEE 1364-2005, sections 5.1.5, 5.1.7, 5.1.8, 5.1.10
-- and 5.1.12.
use Rattle.std.specs.Prelude.{ℕ, ◌==◌, nat_lt, bit_and, bit_or, bit_xor, List, length}
use Rattle.fv_bits.specs.Bits.{bit, sum, difference, product, is_less_signed, shifted_left, shifted_right}
use Rattle.fv_bits.specs.Bits.{arithmetic_right}
use Rattle.bb_aig.specs.declared.node.AigNode.{AigNode}
use Rattle.bb_words.specs.declared.pairs.BitOperator.{BitOperator}
use Rattle.bb_words.specs.declared.pairs.BitOperator.TheVariants as bit_op
use Rattle.bb_words.specs.Words.{IsWord, count}
use Rattle.bb_words.specs.declared.operator.PairOperator.{PairOperator}
use Rattle.bb_words.specs.declared.operator.PairOperator.TheVariants.{And, Or, Xor, Add, Sub, Mul, Eq, Ult, Slt}
use Rattle.bb_words.specs.declared.operator.ShiftOperator.{ShiftOperator}
use Rattle.bb_words.specs.declared.operator.ShiftOperator.TheVariants.{Shl, Lshr, Ashr}

-- of two numbers of w bits
abbrev pub value_of : PairOperator → ℕ → ℕ → ℕ → ℕ
value_of And w m n = bit_and m n
value_of Or w m n = bit_or m n
value_of Xor w m n = bit_xor m n
value_of Add w m n = sum w m n
value_of Sub w m n = difference w m n
value_of Mul w m n = product w m n
value_of Eq w m n = bit (m == n)
value_of Ult w m n = bit (nat_lt m n)
value_of Slt w m n = bit (is_less_signed w m n)

-- the width of the answer
abbrev pub width_of : PairOperator → ℕ → ℕ
width_of Eq w = 1
width_of Ult w = 1
width_of Slt w = 1
width_of And w = w
width_of Or w = w
width_of Xor w = w
width_of Add w = w
width_of Sub w = w
width_of Mul w = w

-- of a number of w bits and the number that it is shifted by
abbrev pub shift_of : ShiftOperator → ℕ → ℕ → ℕ → ℕ
shift_of Shl w n k = shifted_left w n k
shift_of Lshr w n k = shifted_right n k
shift_of Ashr w n k = arithmetic_right w n k

-- an operator on each bit
abbrev pub of_bits : BitOperator → PairOperator
of_bits bit_op.And = And
of_bits bit_op.Or = Or
of_bits bit_op.Xor = Xor

-- Literals are the bits of what the operator makes of the numbers that two words had before gates were added.
abbrev pub MeansPair : List AigNode → List AigNode → PairOperator → List ℕ → List ℕ → List ℕ → Type 0
MeansPair old new operator a b lits =
    IsWord new (width_of operator (length a)) (λ x. value_of operator (length a) (count old x a) (count old x b)) lits

-- and of a word that is shifted by another one
abbrev pub MeansShift : List AigNode → List AigNode → ShiftOperator → List ℕ → List ℕ → List ℕ
    → Type 0
MeansShift old new operator word by lits =
    IsWord new (length word) (λ x. shift_of operator (length word) (count old x word) (count old x by)) lits
