use Rattle.std.proofs.Common.{◌∙◌, ◌+ℤ◌, pos, arith}
use Rattle.std.proofs.lemmas.Int.{ints}
use Rattle.vl_flow_cells.specs.Places.{AreBelow}
use Rattle.vl_flow_cells.proofs.Ranges.{below_as, between_is_spot}
use Rattle.vl_flow_cells.proofs.mask.mask_from.Goals as goal

pub returns : goal.returns
returns c n k =
    let low = c.args.low in
    let first : AreBelow c.args.width low c.places_below-first.result =
    below_as c.args.width c.places_below-first.result _ low (omega (arith, ints)) c.places_below-first.ensures in
    let past : AreBelow c.args.width (low +ℤ pos c.args.count) c.places_below-past.result =
    below_as c.args.width c.places_below-past.result _ (low +ℤ pos c.args.count) (omega (arith, ints))
    c.places_below-past.ensures in
    c.mask_between.ensures k
    ∙ between_is_spot c.args.count c.args.width low c.places_below-first.result c.places_below-past.result n k first
    past
