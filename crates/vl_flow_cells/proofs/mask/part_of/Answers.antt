use Rattle.fv_bits.specs.Bits.{as_int}
use Rattle.vl_flow_cells.proofs.Masks.{mask_of_part}
use Rattle.vl_flow_cells.proofs.mask.part_of.Goals as goal

pub returns : goal.returns
returns c ds p sized =
    let l = c.constant-left.result in
    let r = c.constant.result in
    mask_of_part ds c.args.decl.now p c.args.left.now c.args.right.now c.part_mask.result
    (as_int l.width l.signed l.number) (as_int r.width r.signed r.number) c.constant-left.ensures
    c.constant.ensures c.part_mask.ensures sized
