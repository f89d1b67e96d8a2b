use Rattle.std.proofs.Common.{ap, sym, ◌∙◌}
use Rattle.vl_flow_order.proofs.Turns.{number_known, place_is}
use Rattle.vl_flow_order.proofs.loops.place_at.Goals as goal

pub bounds-drivers-number : goal.bounds-drivers-number
bounds-drivers-number c =
    number_known c.args.drivers.now c.args.numbers.now c.requires.known c.args.at c.requires.within

pub returns : goal.returns
returns c n x e f =
    ap (λ d. d.pos) (sym c.index-drivers-number.is)
    ∙ place_is c.args.drivers.now c.args.numbers.now c.requires.known c.args.at c.index-drivers-number.result x n
    c.requires.within c.index-drivers-number.is e f
