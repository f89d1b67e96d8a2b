use Rattle.std.proofs.Common.{arith}
use Rattle.bm_decide.proofs.Bits.{bit_small, number_small}
use Rattle.bm_decide.proofs.numbers.number_of.Goals as goal

pub overflow_mul-made : goal.overflow_mul-made
overflow_mul-made c =
    omega (
      arith,
      number_small c.args.bits.now c.loop-index.index c.requires (omega arith) (omega arith),
      c.loop-index.invariant,
    )

pub overflow_add-made : goal.overflow_add-made
overflow_add-made c =
    omega (
      arith,
      number_small c.args.bits.now c.loop-index.index c.requires (omega arith) (omega arith),
      c.loop-index.invariant,
      bit_small _ c.from.result c.from.ensures,
    )
