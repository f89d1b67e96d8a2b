use Rattle.std.proofs.Common.{None, sym, subst}
use Rattle.vl_flow_order.specs.Visits.{AreVisits}
use Rattle.vl_flow_order.proofs.Bucketing.{adds_settled, visits_within}
use Rattle.vl_flow_order.proofs.buckets.add_settled.Goals as goal

pub add_driver-requires : goal.add_driver-requires
add_driver-requires c =
    visits_within c.args.groups.now c.args.footprint.now.drives c.in_ok-visits.visits.items c.as_slice.result.now _
    c.in_ok-visits.ensures c.as_slice.ensures.value c.requires

pub returns : goal.returns
returns c =
    adds_settled c.args.groups.now c.args.footprint.now c.args.driver c.args.buckets.now.items
    c.add_driver.new.buckets.items c.as_slice.result.now c.if-footprint.false
    (subst (λ vs. AreVisits c.args.groups.now c.args.footprint.now.drives vs None) (sym c.as_slice.ensures.value)
    c.in_ok-visits.ensures) c.in_ok-add_driver.ensures
