use Rattle.vl_lower_assign.proofs.Overlaps.{high_overlap}
use Rattle.vl_lower_assign.proofs.bits.from_zero.Goals as goal

pub returns : goal.returns
returns c =
    high_overlap c.args.count c.args.width c.args.from c.least-past.result c.requires.within c.requires.some
    c.least-past.ensures
