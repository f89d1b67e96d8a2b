use Rattle.std.proofs.Common.{subst, sym}
use Rattle.fv_graph.specs.Graph.{IsOrder}
use Rattle.fv_graph.proofs.Ends.{ordered}
use Rattle.fv_graph.proofs.walked.walk.Goals as goal

pub returns : goal.returns
returns c =
    let state = c.loop-node.state in
    let graph = c.args.graph.now in
    subst (IsOrder graph) (sym c.from_vec.ensures)
    (ordered graph state.progress.items state.path.items state.done.items c.loop-node.node c.loop-node.invariant.0
    c.loop-node.invariant.1 c.loop-node-test.false c.loop-node.invariant.2)
