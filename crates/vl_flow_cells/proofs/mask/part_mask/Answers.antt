use Rattle.std.proofs.Common.{ap, sym, ◌∙◌, Some}
use Rattle.fv_bits.specs.Bits.{as_int}
use Rattle.vl_size.specs.Size.{offset_of}
use Rattle.vl_mean.specs.Targets.{has_spot, spots_from}
use Rattle.vl_flow_cells.proofs.Sizes.{part_span}
use Rattle.vl_flow_cells.proofs.mask.part_mask.Goals as goal

pub returns-in-Some : goal.returns-in-Some
returns-in-Some c sized n k =
    let d = c.args.decl.now in
    let l = as_int c.args.left.width c.args.left.signed c.args.left.number in
    let r = as_int c.args.right.width c.args.right.signed c.args.right.number in
    let same = part_span d l r c.in-Some.count (sym c.part_size.ensures.value ∙ c.in-Some.is) in
    c.mask_at.ensures n k ∙ ap (λ m. has_spot n k (spots_from m d.width (Some n) (offset_of d r))) same
