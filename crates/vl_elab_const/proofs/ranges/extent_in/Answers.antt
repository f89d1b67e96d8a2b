use Rattle.vl_mean.specs.Declarations.{vector_bounds}
use Rattle.vl_elab_const.proofs.Extents.{covered}
use Rattle.vl_elab_const.proofs.ranges.extent_in.Goals as goal

pub returns : goal.returns
returns c = λ ss h b.
    covered (vector_bounds ss c.args.range.now) c.in_ok-bounds.bounds c.extent_of.result
    (c.in_ok-bounds.ensures ss h b.bounded) c.extent_of.ensures b
