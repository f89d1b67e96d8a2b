use Rattle.std.proofs.Common.{◌∙◌}
use Rattle.vl_size.specs.Divisors.{valid_size}
use Rattle.vl_mean.specs.Env.{cells_of}
use Rattle.vl_mean.proofs.Sized.{bound_ranged}
use Rattle.vl_mean.proofs.first_fault.bound_fault.Goals as goal

pub returns : goal.returns
returns c =
    bound_ranged c.args.env.now.decls (cells_of c.args.env.now) c.args.pos c.args.bound.now _ _ _ _ c.own.ensures.index
    (c.size_of.ensures.value ∙ (λ i. valid_size
    (c.decls.ensures i) c.args.bound.now)) c.far_fault.ensures c.if_sized.ensures
