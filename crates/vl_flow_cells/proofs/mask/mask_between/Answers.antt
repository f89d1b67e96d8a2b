use Rattle.std.proofs.Common.{◌≤◌, arith}
use Rattle.vl_flow_cells.proofs.Ranges.{ones_rise}
use Rattle.vl_flow_cells.proofs.mask.mask_between.Goals as goal

pub overflow_sub-result : goal.overflow_sub-result
overflow_sub-result c =
    let less : c.args.first ≤ c.args.past = omega arith in
    let rise = ones_rise c.args.first c.args.past less in omega (arith, rise)
