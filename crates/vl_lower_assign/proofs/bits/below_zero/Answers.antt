use Rattle.vl_lower_assign.proofs.Overlaps.{low_overlap}
use Rattle.vl_lower_assign.proofs.bits.below_zero.Goals as goal

pub returns : goal.returns
returns c = λ p at.
    low_overlap c.args.count c.args.width p c.args.skip c.least-past.result at c.requires.some c.requires.bits
    c.least-past.ensures
