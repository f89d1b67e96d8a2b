use Rattle.std.specs.Prelude.{drop}
use Rattle.bm_unroll.proofs.Copying.{Copying}
use Rattle.bm_unroll.proofs.copy.copy_cycle.Given as goal

abbrev pub invariant-loop-node : goal.invariant-loop-node
invariant-loop-node l =
    Copying l.fn.frames l.frames l.net l.inputs l.state l.table.items (drop l.node-index l.net.nodes)
