use Rattle.std.proofs.Common.{◌≡◌, length}
use Rattle.aiger_text.specs.Lines.{lines}
use Rattle.aiger_text.specs.Said.{read_gates}
use Rattle.aiger_text.specs.Bodies.{said_of, IsBody}
use Rattle.aiger_text.proofs.body.Body.take_all.Given as goal

abbrev pub invariant-loop-rest : goal.invariant-loop-rest
invariant-loop-rest l = IsBody l.self
    × (read_gates l.sizes l.line (said_of l.self) (lines l.rest)
    ≡ read_gates l.sizes l.first (said_of l.initial.self) (lines l.text))

abbrev pub decreases-loop-rest : goal.decreases-loop-rest
decreases-loop-rest l = length l.rest
