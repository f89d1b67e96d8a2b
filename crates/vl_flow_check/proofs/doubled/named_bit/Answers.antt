use Rattle.std.proofs.Common.{◌∙◌, ap, sym, Some}
use Rattle.vl_flow_spec.specs.Refusals.{with_two}
use Rattle.vl_flow_check.specs.Earliest.{listed}
use Rattle.vl_flow_check.proofs.doubled.named_bit.Goals as goal

pub returns-in_ok-name-in-Two : goal.returns-in_ok-name-in-Two
returns-in_ok-name-in-Two c d at =
    let bit = c.args.bit in
    ap (λ t. Some (t, bit, c.in-Two.first, c.in-Two.second)) (c.in_ok-name-in-Two.ensures d at)
    ∙ ap (λ e. with_two d.name bit (listed e)) (sym c.in-Two.is)
