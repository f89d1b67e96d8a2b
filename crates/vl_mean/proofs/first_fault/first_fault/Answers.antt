use Rattle.std.proofs.Common.{◌∙◌, ap}
use Rattle.vl_size.specs.Divisors.{own_zero_divisor}
use Rattle.vl_mean.specs.ConstantFaults.{earlier, divisor_fault}
use Rattle.vl_mean.proofs.first_fault.first_fault.Goals as goal

pub returns : goal.returns
returns c =
    let divisor = c.divisor_fault-divisor.ensures
    ∙ ap divisor_fault (c.own_zero_divisor.ensures ∙ (λ i. own_zero_divisor (c.decls.ensures i) c.args.expr.now)) in
    c.earlier.ensures ∙ (λ i. earlier (c.fault.ensures i) (divisor i))
