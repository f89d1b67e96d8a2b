use Rattle.std.proofs.Common.{rules, sym, ◌≡◌, Some, subst}
use Rattle.vl_flow_order.specs.Visits.{AreVisits}
use Rattle.vl_flow_order.proofs.Visiting.{begun, next_set, visited}
use Rattle.vl_flow_order.proofs.visit.visits_of.Goals as goal

pub loop-next-init : goal.loop-next-init
loop-next-init c =
    let next = c.first_from-next.result in
    subst (λ vs. AreVisits c.args.groups.now c.args.bits.now vs next) (sym c.new-visits.ensures.items)
    (begun c.args.groups.now c.args.bits.now next
    (next_set c.args.bits.now 0 next c.first_from-next.ensures.found) c.first_from-next.ensures.first)

pub loop-next-preserved : goal.loop-next-preserved
loop-next-preserved c =
    let here : c.loop-next.next ≡ Some c.in-Some.cell = search (rules, c.in-Some.is) in
    visited c.args.groups.now c.args.bits.now c.loop-next.visits.items c.push.new.visits.items c.in-Some.cell
    c.in-Some-visit_at.visit c.first_from-next-in-Some.result
    (subst (AreVisits c.args.groups.now c.args.bits.now c.loop-next.visits.items) here c.loop-next.invariant)
    c.in-Some-visit_at.ensures.some.0 c.in_ok-push.ensures
    (next_set c.args.bits.now c.in-Some-visit_at.visit.past c.first_from-next-in-Some.result
    c.first_from-next-in-Some.ensures.found) c.first_from-next-in-Some.ensures.first
