use Rattle.std.proofs.Common.{◌∙◌}
use Rattle.vl_size.specs.Divisors.{valid_size}
use Rattle.vl_mean.specs.Env.{cells_of}
use Rattle.vl_mean.proofs.Sized.{part_ranged}
use Rattle.vl_mean.proofs.first_fault.part_fault.Goals as goal

pub returns : goal.returns
returns c =
    part_ranged c.args.env.now.decls
    (cells_of c.args.env.now) c.args.pos c.args.left.now c.args.right.now _ _ _ _ _ _ _ _
    c.own.ensures.index c.own-2.ensures.index
    (c.size_of-2.ensures.value ∙ (λ i. valid_size (c.decls-2.ensures i) c.args.left.now))
    (c.size_of.ensures.value ∙ (λ i. valid_size (c.decls.ensures i) c.args.right.now))
    c.wide_part-size.ensures c.range_unless.ensures c.if_sized-found.ensures c.if_sized.ensures
