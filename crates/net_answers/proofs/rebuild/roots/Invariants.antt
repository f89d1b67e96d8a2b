use Rattle.wn_net.specs.Net.{AreNodes}
use Rattle.net_answers.proofs.rebuild.roots.Given as goal

abbrev pub invariant-loop-word : goal.invariant-loop-word
invariant-loop-word l = AreNodes l.net l.roots.items
