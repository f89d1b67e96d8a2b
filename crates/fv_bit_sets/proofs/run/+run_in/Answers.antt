use Rattle.std.proofs.Common.{◌<◌, ◌/◌, length, arith}
use Rattle.fv_bit_sets.proofs.Rising.{lower_rising, upper_rising, in_lower, in_upper, lower_length, upper_length}
use Rattle.fv_bit_sets.proofs.run.+run_in.Goals as goal

pub run_in-requires : goal.run_in-requires
run_in-requires t c =
    let ss = c.args.steps.now in
    let some : 0 < length ss = grind (arith, c.if-steps-eq0.false) in
    let half : length ss / 2 < length ss = omega (arith, some) in (
      omega (arith, c.decreases, lower_length ss (length ss / 2) half),
      (lower_rising c.args.before.past ss (length ss / 2) _ half c.requires.rising, c.if-cell-step.true),
    )

pub run_in-requires-else-cell-step : goal.run_in-requires-else-cell-step
run_in-requires-else-cell-step t c =
    let ss = c.args.steps.now in
    let some : 0 < length ss = grind (arith, c.if-steps-eq0.false) in
    let half : length ss / 2 < length ss = omega (arith, some) in (
      omega (arith, c.decreases, upper_length ss (length ss / 2) half),
      (upper_rising c.args.before.past ss (length ss / 2) half c.requires.rising, c.requires.inside),
    )

pub returns-then-cell-step : goal.returns-then-cell-step
returns-then-cell-step t c =
    let some : 0 < length c.args.steps.now = grind (arith, c.if-steps-eq0.false) in
    in_lower c.args.before.mask c.args.before.past c.args.steps.now (length c.args.steps.now / 2) _ c.args.cell
    c.run_in.result (omega (arith, some)) c.requires.rising c.run_in.ensures

pub returns-else-cell-step : goal.returns-else-cell-step
returns-else-cell-step t c =
    let some : 0 < length c.args.steps.now = grind (arith, c.if-steps-eq0.false) in
    in_upper c.args.before.mask c.args.before.past c.args.steps.now (length c.args.steps.now / 2) _ c.args.cell
    c.run_in-else-cell-step.result (omega (arith, some)) c.requires.rising c.if-cell-step.false
    c.run_in-else-cell-step.ensures
