use Rattle.std.proofs.Common.{◌∙◌, ◌^◌}
use Rattle.vl_token.specs.Number.{worth}
use Rattle.vl_token.proofs.Folds.{short_more, short_small}
use Rattle.vl_token.proofs.number.short_value.Goals as goal

pub loop-byte-preserved : goal.loop-byte-preserved
loop-byte-preserved c = record {
  small = short_small _ _ _ (2 ^ 32) _ c.loop-byte.invariant.small c.short_step-value.ensures;
  same =
      short_more worth c.args.radix _ _ (2 ^ 32) _ _ c.requires.0 c.loop-byte-test.true c.short_step-value.ensures
      ∙ c.loop-byte.invariant.same;
}
