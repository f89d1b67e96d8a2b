use Rattle.std.proofs.Common.{◌≡◌, take}
use Rattle.fv_graph.specs.Walking.{nodes_of}
use Rattle.fv_graph.proofs.circle.nodes.Given as goal

abbrev pub invariant-loop-step : goal.invariant-loop-step
invariant-loop-step l = l.found ≡ nodes_of (take l.step-index l.path)
