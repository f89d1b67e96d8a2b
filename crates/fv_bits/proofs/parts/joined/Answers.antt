use Rattle.std.specs.Prelude.{◌+◌}
use Rattle.std.proofs.Common.{arith}
use Rattle.fv_bits.proofs.Limits.{joined_fits, joined_whole, ones_le}
use Rattle.fv_bits.proofs.parts.joined.Goals as goal

pub overflow_add-result : goal.overflow_add-result
overflow_add-result c =
    let whole = joined_whole c.args.above c.args.width c.args.high c.requires.high c.requires.few in
    let fits = joined_fits c.args.above c.args.width c.args.high c.args.behind c.requires.high c.requires.behind in
    let few = ones_le (c.args.above + c.args.width) c.requires.few in
    omega (arith, whole, fits, few)

pub returns-clause-value : goal.returns-clause-value
returns-clause-value c =
    let whole = joined_whole c.args.above c.args.width c.args.high c.requires.high c.requires.few in
    omega (arith, whole)

pub returns-clause-fits : goal.returns-clause-fits
returns-clause-fits c =
    let whole = joined_whole c.args.above c.args.width c.args.high c.requires.high c.requires.few in
    let fits = joined_fits c.args.above c.args.width c.args.high c.args.behind c.requires.high c.requires.behind in
    omega (arith, whole, fits)
