use Rattle.fv_bits.specs.Bits.{as_int}
use Rattle.vl_flow_cells.proofs.Masks.{mask_of_bit}
use Rattle.vl_flow_cells.proofs.mask.bit_of.Goals as goal

pub returns : goal.returns
returns c ds p fix =
    let i = c.constant.result in
    mask_of_bit ds c.args.decl.now p c.args.index.now c.mask_at.result (as_int i.width i.signed i.number)
    c.constant.ensures c.mask_at.ensures fix
