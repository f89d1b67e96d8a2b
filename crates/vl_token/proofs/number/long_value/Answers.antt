use Rattle.std.proofs.Common.{◌∙◌, ◌^◌}
use Rattle.vl_token.specs.Number.{worth}
use Rattle.vl_token.proofs.Folds.{long_more, long_small}
use Rattle.vl_token.proofs.number.long_value.Goals as goal

pub loop-byte-preserved : goal.loop-byte-preserved
loop-byte-preserved c = record {
  small = long_small _ _ _ (2 ^ 128) _ c.loop-byte.invariant.small c.long_step-value.ensures;
  same =
      long_more worth c.args.radix _ _ _
      (2 ^ 128) _ _ c.loop-byte-test.true c.worth.ensures.value c.long_step-value.ensures
      ∙ c.loop-byte.invariant.same;
}
