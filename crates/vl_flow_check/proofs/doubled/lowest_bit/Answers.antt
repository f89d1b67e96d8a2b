use Rattle.std.proofs.Common.{◌<◌, ◌^◌, arith}
use Rattle.fv_bit_sets.specs.Cells.{has}
use Rattle.vl_flow_check.proofs.Lowest.{few_zeros, lowest, no_bit}
use Rattle.vl_flow_check.proofs.doubled.lowest_bit.Goals as goal

pub returns-then-mask-eq0-clause-lowest : goal.returns-then-mask-eq0-clause-lowest
returns-then-mask-eq0-clause-lowest c p width tells =
    no_bit c.mask-mask.result (λ i. has c.args.bits.now c.args.cell i) p width c.mask-mask.ensures tells
    c.if-mask-eq0.true

pub returns-clause-lowest : goal.returns-clause-lowest
returns-clause-lowest c p width tells =
    let mask = c.mask-mask.result in
    let fits : mask < 2 ^ 128 = omega (arith, c.mask-mask.type_inv) in
    let some : 0 < mask = omega (arith, c.if-mask-eq0.false) in
    lowest mask (λ i. has c.args.bits.now c.args.cell i) p width c.mask-mask.ensures tells some fits

pub returns-clause-few : goal.returns-clause-few
returns-clause-few c =
    let mask = c.mask-mask.result in
    let fits : mask < 2 ^ 128 = omega (arith, c.mask-mask.type_inv) in
    let some : 0 < mask = omega (arith, c.if-mask-eq0.false) in few_zeros mask some fits
