use Rattle.std.proofs.Common.{rules, ap, sym, ◌∙◌, Some}
use mir.Val.{SFits}
use mir.Syntax.{w128}
use Rattle.std.proofs.lemmas.Int.{to_z-of_z}
use Rattle.fv_bits.specs.Bits.{as_int}
use Rattle.vl_size.specs.Size.{start_of}
use Rattle.vl_mean.specs.Targets.{has_spot, spots_from}
use Rattle.vl_flow_cells.specs.Places.{is_near}
use Rattle.vl_flow_cells.proofs.Ranges.{far_start, taken, untaken}
use Rattle.vl_flow_cells.proofs.mask.mask_on.Goals as goal

pub returns-in-None : goal.returns-in-None
returns-in-None c n k =
    let i = as_int c.args.start.width c.args.start.signed c.args.start.number in
    far_start c.args.decl.now i c.args.count n k c.requires.bound c.requires.few c.requires.count
    (untaken (is_near i) i (sym c.near.ensures ∙ c.in-None.is))

pub returns-in-Some : goal.returns-in-Some
returns-in-Some c n k =
    let d = c.args.decl.now in
    let i = as_int c.args.start.width c.args.start.signed c.args.start.number in
    let j = c.in-Some.start in
    let fits : SFits w128 j = search rules in
    let place : SFits w128 c.start_of.result = search rules in
    let same = taken (is_near i) i j (sym c.near.ensures ∙ c.in-Some.is) in
    c.mask_from.ensures n k
    ∙ ap (λ p. has_spot n k (spots_from c.args.count d.width (Some n) p))
    (to_z-of_z w128 c.start_of.result place ∙ c.start_of.ensures.value
    ∙ ap (λ x. start_of d x c.args.count) (to_z-of_z w128 j fits ∙ sym same))
