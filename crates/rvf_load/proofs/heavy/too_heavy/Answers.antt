use Rattle.std.proofs.Common.{◌∙◌}
use Rattle.rvf_load.proofs.Products.{light_enough}
use Rattle.rvf_load.proofs.heavy.too_heavy.Goals as goal

pub loop-place-preserved : goal.loop-place-preserved
loop-place-preserved c =
    light_enough c.args.weight c.loop-place.place c.args.factors.now c.from.result c.saturating_mul-product.result
    c.loop-place-test.true c.from.ensures c.saturating_mul-product.ensures c.if-product-gt-LIMIT.false
    ∙ c.loop-place.invariant
