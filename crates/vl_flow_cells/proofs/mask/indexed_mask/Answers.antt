use Rattle.std.proofs.Common.{◌≡◌, ap, sym, ◌∙◌, arith, Some}
use Rattle.std.specs.Prelude.{nat_abs}
use Rattle.fv_bits.specs.Bits.{as_int}
use Rattle.vl_size.specs.Size.{start_of}
use Rattle.vl_mean.specs.Targets.{has_spot, spots_from}
use Rattle.vl_flow_cells.proofs.mask.indexed_mask.Goals as goal

pub returns-in-Some : goal.returns-in-Some
returns-in-Some c sized n k =
    let d = c.args.decl.now in
    let s = as_int c.args.start.width c.args.start.signed c.args.start.number in
    let x = as_int c.args.count.width c.args.count.signed c.args.count.number in
    let number : c.in-Some.size ≡ c.args.count.number = omega (arith, c.in-Some.ensures.product.0) in
    let same : c.in-Some.size ≡ nat_abs x = number ∙ sym (ap nat_abs c.in-Some.ensures.positive) in
    c.mask_on.ensures n k ∙ (λ j. has_spot n k (spots_from (same j) d.width (Some n) (start_of d s (same j))))
