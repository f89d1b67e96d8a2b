use Rattle.std.proofs.Common.{◌∙◌, ◌<◌, ap, length, subst, sym}
use Rattle.fv_graph.specs.Graph.{IsSimpleCircle}
use Rattle.fv_graph.specs.Walked.{ComesOf}
use Rattle.vl_flow_order.specs.Reads.{IsReadingGraph}
use Rattle.vl_flow_order.specs.Numbers.{AreNumbers, settled_of}
use Rattle.vl_flow_order.proofs.Circles.{circle_numbers, circle_some, found_loop}
use Rattle.vl_flow_order.proofs.Orders.{order_numbers, sequence}
use Rattle.vl_flow_order.proofs.OrderReading.{graph_few, graph_within}
use Rattle.vl_flow_spec.specs.Sequence.{IsSequence}
use Rattle.vl_flow_order.proofs.sequence.sequence_of.Goals as goal

pub walk-requires : goal.walk-requires
walk-requires c =
    let groups = c.args.groups.now in
    let fs = c.args.footprints.now in
    let g = c.in_ok-graph.graph.items in record {
      within = graph_within groups fs g c.as_slice.result.now c.in_ok-graph.ensures c.as_slice.ensures.value;
      numbered = graph_few groups fs g c.as_slice.result.now c.in_ok-graph.ensures c.as_slice.ensures.value
          c.requires.few;
    }

pub settled-requires : goal.settled-requires
settled-requires c =
    let groups = c.args.groups.now in
    let fs = c.args.footprints.now in
    let h = c.as_slice.result.now in
    let graph = subst (IsReadingGraph groups fs) (sym c.as_slice.ensures.value) c.in_ok-graph.ensures in
    let o = subst (ComesOf h) c.in-Order.is c.in_ok-order.ensures in
    subst (AreNumbers (length fs)) (sym c.as_slice-in-Order.ensures)
    (order_numbers groups fs h c.in-Order.order graph o)

pub loop_of-requires : goal.loop_of-requires
loop_of-requires c =
    let groups = c.args.groups.now in
    let fs = c.args.footprints.now in
    let h = c.as_slice.result.now in
    let circle = c.in-Circle.circle in
    let graph = subst (IsReadingGraph groups fs) (sym c.as_slice.ensures.value) c.in_ok-graph.ensures in
    let o = subst (ComesOf h) c.in-Circle.is c.in_ok-order.ensures in record {
      some = subst (λ xs. 0 < length xs) (sym c.as_slice-in-Circle.ensures) (circle_some h circle o.0);
      known = subst (AreNumbers (length c.args.drivers.now)) (sym c.as_slice-in-Circle.ensures)
          (subst (λ n. AreNumbers n circle) c.requires.size (circle_numbers groups fs h circle graph o.0));
    }

pub returns-in-Order : goal.returns-in-Order
returns-in-Order c ds w =
    let groups = c.args.groups.now in
    let fs = c.args.footprints.now in
    let drivers = c.args.drivers.now in
    let h = c.as_slice.result.now in
    let graph = subst (IsReadingGraph groups fs) (sym c.as_slice.ensures.value) c.in_ok-graph.ensures in
    let o = subst (ComesOf h) c.in-Order.is c.in_ok-order.ensures in
    subst (IsSequence ds drivers)
    (sym (c.in_ok-settled-in-Order.ensures ∙ ap (settled_of fs) c.as_slice-in-Order.ensures))
    (sequence ds groups fs drivers w h c.in-Order.order graph o)

pub returns : goal.returns
returns c ds w =
    let groups = c.args.groups.now in
    let fs = c.args.footprints.now in
    let h = c.as_slice.result.now in
    let circle = c.as_slice-in-Circle.result.now in
    let graph = subst (IsReadingGraph groups fs) (sym c.as_slice.ensures.value) c.in_ok-graph.ensures in
    let o = subst (ComesOf h) c.in-Circle.is c.in_ok-order.ensures in
    let r = c.in_ok-loop_of-in-Circle.ensures in
    found_loop ds groups fs c.args.drivers.now w h graph circle r.0 c.in_ok-loop_of-in-Circle.field-0
    (subst (IsSimpleCircle h) (sym c.as_slice-in-Circle.ensures) o) r.1 r.2 r.3 r.4 c.requires.size
