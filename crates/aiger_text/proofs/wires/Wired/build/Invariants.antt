use Rattle.aiger_text.specs.Built.{Builds}
use Rattle.aiger_text.proofs.wires.Wired.build.Given as goal

abbrev pub invariant-loop-gate : goal.invariant-loop-gate
invariant-loop-gate l =
    Builds l.self.inputs l.self.wires.items l.order l.gate-index l.draft.aig l.draft.lits.items
