use Rattle.std.proofs.Common.{◌∙◌, ◌^◌}
use Rattle.vl_token.specs.Marks.{test_of, mark_worth}
use Rattle.vl_token.proofs.Folds.{long_more, long_small}
use Rattle.vl_token.proofs.number.mark_bits.Goals as goal

pub loop-byte-preserved : goal.loop-byte-preserved
loop-byte-preserved c = record {
  small = long_small _ _ _ (2 ^ 128) _ c.loop-byte.invariant.small c.long_step-bits.ensures;
  same =
      long_more (mark_worth (test_of c.args.mark) c.args.radix) c.args.radix _ _ _
      (2 ^ 128) _ _ c.loop-byte-test.true c.worth.ensures c.long_step-bits.ensures
      ∙ c.loop-byte.invariant.same;
}
