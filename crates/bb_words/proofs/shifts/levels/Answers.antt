use Rattle.std.specs.Prelude.{◌<◌, ◌^◌}
use Rattle.std.proofs.Common.{arith}
use borrow.Author.Count.{below_more}
use Rattle.bb_words.proofs.shifts.levels.Goals as goal

pub loop-levels-preserved : goal.loop-levels-preserved
loop-levels-preserved c = record {
  few = omega arith;
  below = below_more (λ i. 2 ^ i < c.args.width) c.loop-levels.levels c.loop-levels.invariant.below (omega arith);
}
