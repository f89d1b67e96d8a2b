use Rattle.std.proofs.Common.{◌≡◌, length}
use Rattle.aiger_text.specs.Lines.{lines}
use Rattle.aiger_text.specs.Said.{read_inputs}
use Rattle.aiger_text.specs.Bodies.{AreInputs}
use Rattle.aiger_text.proofs.inputs.Inputs.take_all.Given as goal

abbrev pub invariant-loop-rest : goal.invariant-loop-rest
invariant-loop-rest l = AreInputs l.self
    × (read_inputs l.sizes l.line l.self.literals.items (lines l.rest)
    ≡ read_inputs l.sizes l.first l.initial.self.literals.items (lines l.text))

abbrev pub decreases-loop-rest : goal.decreases-loop-rest
decreases-loop-rest l = length l.rest
