use Rattle.std.proofs.Common.{◌≡◌, length}
use Rattle.fv_lines.specs.Words.{lines}
use Rattle.lrat_check.specs.Steps.{AreSteps}
use Rattle.lrat_check.specs.Texts.{with_lines, steps_of}
use Rattle.lrat_check.proofs.lrat_read.read_lrat.Given as goal

abbrev pub invariant-loop-rest : goal.invariant-loop-rest
invariant-loop-rest l = AreSteps l.steps.items × (with_lines l.line l.steps.items (lines l.rest) ≡ steps_of l.bytes)

abbrev pub decreases-loop-rest : goal.decreases-loop-rest
decreases-loop-rest l = length l.rest
