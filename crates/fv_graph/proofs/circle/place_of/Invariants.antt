use Rattle.std.proofs.Common.{◌≡◌, drop}
use Rattle.fv_graph.specs.Walking.{nodes_from}
use Rattle.fv_graph.proofs.circle.place_of.Given as goal

abbrev pub invariant-loop-index : goal.invariant-loop-index
invariant-loop-index l = nodes_from (drop l.index l.path) l.node ≡ nodes_from l.path l.node
