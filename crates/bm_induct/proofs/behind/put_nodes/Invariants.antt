use Rattle.std.specs.Prelude.{◌≡◌}
use Rattle.bm_induct.specs.Stages as stages
use Rattle.bm_induct.proofs.behind.put_nodes.Given as goal

abbrev pub invariant-loop-node : goal.invariant-loop-node
invariant-loop-node l = l.made ≡ stages.with_nodes l.how l.net l.node-index
