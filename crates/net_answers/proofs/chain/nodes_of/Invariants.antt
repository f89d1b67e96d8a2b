use Rattle.wn_net.specs.Net.{AreNodesOf}
use Rattle.net_answers.proofs.chain.nodes_of.Given as goal

abbrev pub invariant-loop-word : goal.invariant-loop-word
invariant-loop-word l = AreNodesOf l.net l.width l.nodes
