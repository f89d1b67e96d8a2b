use Rattle.std.proofs.Common.{◌∙◌, ap}
use Rattle.vl_size.specs.Divisors.{valid_size}
use Rattle.vl_mean.specs.ConstantFaults.{if_sized, range_unless, wide_times}
use Rattle.vl_mean.proofs.first_fault.count_fault.Goals as goal

pub returns : goal.returns
returns c =
    let sized = c.size_of.ensures.value ∙ (λ i. valid_size (c.decls.ensures i) c.args.count.now) in
    let found =
    c.range_unless-found.ensures ∙ ap (range_unless c.args.pos)
    (c.wide_times.ensures ∙ ap (λ n. wide_times n 1) c.own.ensures.index) in
    c.if_sized.ensures ∙ (λ i. if_sized (sized i) (found i))
