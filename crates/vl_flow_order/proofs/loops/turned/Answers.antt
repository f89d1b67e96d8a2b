use Rattle.vl_flow_order.proofs.loops.turned.Goals as goal

pub returns-clause-turned : goal.returns-clause-turned
returns-clause-turned c = record {
  at = c.earliest.result;
  within = c.earliest.ensures.within;
  earliest = c.earliest.ensures.earliest;
  parts = c.in_ok-circle_from.ensures.nodes;
}
