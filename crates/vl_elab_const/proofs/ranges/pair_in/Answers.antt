use Rattle.std.proofs.Common.{rules}
use Rattle.vl_mean.specs.Declarations.{bounds_of}
use Rattle.vl_elab_const.proofs.Extents.{pair_is, through}
use Rattle.vl_elab_const.proofs.ranges.pair_in.Goals as goal

pub returns : goal.returns
returns c = λ ss h b.
    through c.pair_of.result (bounds_of ss c.args.range.now) _ _ c.in_ok-left.left c.in_ok-right.right
    c.pair_of.ensures (search rules) (search rules)
    (pair_is c.args.numbers.now ss h c.args.range.now c.in_ok-left.left c.in_ok-right.right c.in_ok-left.ensures
    c.in_ok-right.ensures b)
