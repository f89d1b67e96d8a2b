use Rattle.std.proofs.Common.{◌≡◌, ◌∙◌, arith}
use Rattle.vl_flow_effects.proofs.CellMasks.{all_masks, mask_more, no_masks}
use Rattle.vl_flow_effects.proofs.masks.masks_of.Goals as goal

pub loop-cell-init : goal.loop-cell-init
loop-cell-init c = no_masks c.args.bits.now c.new-masks.result c.new-masks.ensures

pub loop-cell-preserved : goal.loop-cell-preserved
loop-cell-preserved c =
    mask_more c.args.bits.now c.loop-cell.masks c.push.new.self c.loop-cell.cell c.mask.result
    c.loop-cell.invariant c.in_ok-push.ensures.ok c.mask.ensures

pub returns : goal.returns
returns c K shows =
    let last : c.loop-cell.cell ≡ c.count_of-count.result = omega arith in
    all_masks c.args.decls.now c.args.bits.now c.loop-cell.masks c.loop-cell.cell K c.loop-cell.invariant
    (last ∙ c.count_of-count.ensures) shows
