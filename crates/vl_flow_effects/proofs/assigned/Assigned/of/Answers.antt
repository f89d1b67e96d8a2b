use Rattle.vl_flow_effects.proofs.assigned.Assigned.of.Goals as goal

pub returns : goal.returns
returns c = record { blocking = c.in_ok-blocking.ensures; nonblocking = c.in_ok-nonblocking.ensures }
