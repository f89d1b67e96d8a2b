use Rattle.fv_bits.specs.Bits.{as_int}
use Rattle.vl_flow_cells.proofs.Masks.{mask_of_indexed}
use Rattle.vl_flow_cells.proofs.mask.indexed_of.Goals as goal

pub returns : goal.returns
returns c ds p sized fix =
    let s = c.constant-start.result in
    let m = c.constant.result in
    mask_of_indexed ds c.args.decl.now p c.args.start.now c.args.count.now c.indexed_mask.result
    (as_int s.width s.signed s.number) (as_int m.width m.signed m.number) c.constant-start.ensures
    c.constant.ensures c.indexed_mask.ensures sized fix
