use Rattle.std.proofs.Common.{◌<◌, ◌^◌, arith}
use Rattle.vl_flow_check.proofs.OpenBits.{all_before, found_open, open_told, some_open}
use Rattle.vl_flow_check.proofs.nets.undriven.Goals as goal

pub returns-in_default : goal.returns-in_default
returns-in_default c drivers w =
    found_open c.args.decls.now c.requires.kept drivers c.in_ok-bits.bits (c.in_ok-bits.ensures drivers w)
    c.first_from.result c.in_default.is c.first_from.ensures.first

pub returns : goal.returns
returns c drivers w =
    let first = c.first_from.ensures in
    let cell = c.in-Some.cell in
    let r = some_open c.in_ok-bits.bits c.first_from.result cell c.in-Some.is first.found in
    let fits : c.mask-bit.result < 2 ^ 128 = omega (arith, c.mask-bit.type_inv) in
    open_told c.args.decls.now c.requires.kept drivers c.in_ok-bits.bits (c.in_ok-bits.ensures drivers w) cell
    c.mask-bit.result r.0 c.in_ok-named_bit.field-0 fits c.mask-bit.ensures r.1
    (all_before c.in_ok-bits.bits c.first_from.result cell c.in-Some.is first.first) c.in_ok-named_bit.ensures
