use Rattle.std.proofs.Common.{◌∙◌, sym}
use Rattle.vl_flow_spec.specs.Refusals.{are_two, bits_counted, places_of}
use Rattle.vl_flow_check.specs.Earliest.{listed}
use Rattle.vl_flow_check.proofs.Lowest.{doubled_is, no_doubled}
use Rattle.vl_flow_check.proofs.doubled.Doubled.lowest.Goals as goal

pub returns-in_default : goal.returns-in_default
returns-in_default c drivers d at t =
    let ds = c.args.decls.now in
    let m = c.args.self.now in
    no_doubled ds drivers m.shares.items m.bits c.args.number d t
    (sym c.in_default.is
    ∙ c.lowest_bit.ensures.lowest (λ i. are_two (places_of ds drivers d i)) (bits_counted d) t.twice)

pub returns : goal.returns
returns c drivers d at t =
    let ds = c.args.decls.now in
    let m = c.args.self.now in
    doubled_is ds drivers m.shares.items m.bits c.args.number d t c.in-Some.bit c.as_slice.result.now
    (listed c.earliest_of-earliest.result) c.in_ok-named_bit.field-0
    (sym c.in-Some.is
    ∙ c.lowest_bit.ensures.lowest (λ i. are_two (places_of ds drivers d i)) (bits_counted d) t.twice)
    c.as_slice.ensures.value c.earliest_of-earliest.ensures (c.in_ok-named_bit.ensures d at)
