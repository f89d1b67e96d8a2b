use Rattle.std.proofs.Common.{◌≡◌, []}
use Rattle.fv_graph.specs.Walking.{Walks}
use Rattle.fv_graph.proofs.Ends.{NoneNewBelow}
use Rattle.fv_graph.proofs.walked.walk.Given as goal

abbrev pub invariant-loop-node : goal.invariant-loop-node
invariant-loop-node l =
    Walks l.graph l.state.progress.items l.state.path.items l.state.done.items
    × (l.state.path.items ≡ []) × NoneNewBelow l.node l.state.progress.items
