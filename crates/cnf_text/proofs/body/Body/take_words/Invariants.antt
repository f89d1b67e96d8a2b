use Rattle.std.proofs.Common.{◌≡◌, length}
use Rattle.fv_lines.specs.Words.{words}
use Rattle.cnf_text.specs.Dimacs.{with_words}
use Rattle.cnf_text.specs.Bodies.{body_of, IsBody}
use Rattle.cnf_text.proofs.body.Body.take_words.Given as goal

abbrev pub invariant-loop-word : goal.invariant-loop-word
invariant-loop-word l = IsBody l.vars l.self
    × (with_words l.vars l.line (body_of l.self) (words l.rest)
    ≡ with_words l.vars l.line (body_of l.initial.self) (words l.text))

abbrev pub decreases-loop-word : goal.decreases-loop-word
decreases-loop-word l = length l.rest
