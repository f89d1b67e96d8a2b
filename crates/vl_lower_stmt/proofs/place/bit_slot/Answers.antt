use Rattle.vl_lower_stmt.proofs.Bits.{bits_one}
use Rattle.vl_lower_stmt.proofs.place.bit_slot.Goals as goal

pub returns-clause-bits : goal.returns-clause-bits
returns-clause-bits c = λ p.
    bits_one c.args.layout.decls.now c.args.net.now c.place_at.new.net c.args.cells.now c.args.decl.now c.args.holder p
    c.args.index.now c.in_ok-place.place c.requires.sized c.in_ok-place.ensures
