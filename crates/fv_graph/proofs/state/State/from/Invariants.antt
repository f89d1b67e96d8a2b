use Rattle.fv_graph.specs.Walking.{Walks, AreFewer, work}
use Rattle.fv_graph.proofs.state.State.from.Given as goal

abbrev pub invariant-loop-step : goal.invariant-loop-step
invariant-loop-step l =
    Walks l.graph l.self.progress.items l.self.path.items l.self.done.items
    × AreFewer l.initial.self.progress.items l.self.progress.items

abbrev pub decreases-loop-step : goal.decreases-loop-step
decreases-loop-step l = work l.graph l.self.progress.items l.self.path.items
