use Rattle.std.proofs.Common.{◌∙◌, ap, length, subst, sym}
use Rattle.vl_flow_order.specs.Numbers.{AreNumbers, numbered, places}
use Rattle.vl_flow_order.proofs.Turns.{turned_numbers}
use Rattle.vl_flow_order.proofs.loops.loop_of.Goals as goal

pub places_of-requires : goal.places_of-requires
places_of-requires c =
    let t = c.in_ok-numbers.ensures.turned in
    subst (AreNumbers (length c.args.drivers.now)) (sym c.as_slice.ensures)
    (turned_numbers (length c.args.drivers.now) c.args.circle.now c.in_ok-numbers.numbers t.at t.parts
    c.requires.known)

pub returns : goal.returns
returns c = (
  c.in_ok-numbers.numbers,
  c.in_ok-numbers.ensures.turned,
  c.in_ok-numbers.ensures.closed,
  c.in_ok-numbers.ensures.once,
  c.in_ok-places_of.ensures ∙ ap (λ ns. places (numbered c.args.drivers.now ns)) c.as_slice.ensures,
)
