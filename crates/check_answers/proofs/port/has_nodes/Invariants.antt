use Rattle.std.proofs.Common.{drop}
use Rattle.wn_net.specs.Net.{AreNodesWith}
use Rattle.check_answers.proofs.port.has_nodes.Given as goal

abbrev pub invariant-loop-node : goal.invariant-loop-node
invariant-loop-node l = AreNodesWith l.net (drop l.node-index l.nodes) → AreNodesWith l.net l.nodes
