use Rattle.std.proofs.Common.{◌<◌, length, arith}
use Rattle.fv_bit_sets.proofs.Rising.{last_is}
use Rattle.fv_bit_sets.proofs.put.last_mask.Goals as goal

pub returns : goal.returns
returns c =
    let some : 0 < length c.args.steps.now = grind (arith, c.if-count-eq0.false) in
    λ past cell rising le. last_is c.args.steps.now _ past cell some rising le
