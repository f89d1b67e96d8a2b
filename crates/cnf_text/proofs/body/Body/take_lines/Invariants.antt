use Rattle.std.proofs.Common.{◌≡◌, length}
use Rattle.fv_lines.specs.Words.{lines}
use Rattle.cnf_text.specs.Dimacs.{with_lines}
use Rattle.cnf_text.specs.Bodies.{body_of, IsBody}
use Rattle.cnf_text.proofs.body.Body.take_lines.Given as goal

abbrev pub invariant-loop-rest : goal.invariant-loop-rest
invariant-loop-rest l = IsBody l.vars l.self
    × (with_lines l.vars l.line (body_of l.self) (lines l.rest)
    ≡ with_lines l.vars l.first (body_of l.initial.self) (lines l.text))

abbrev pub decreases-loop-rest : goal.decreases-loop-rest
decreases-loop-rest l = length l.rest
