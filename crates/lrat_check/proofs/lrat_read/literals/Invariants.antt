use Rattle.std.proofs.Common.{◌≡◌, [], length}
use Rattle.fv_lines.specs.Words.{words}
use Rattle.lrat_check.specs.Sets.{AreLits}
use Rattle.lrat_check.specs.Texts.{up_to_end, literal_of}
use Rattle.lrat_check.proofs.lrat_read.literals.Given as goal

abbrev pub invariant-loop-word : goal.invariant-loop-word
invariant-loop-word l = AreLits l.lits ×
    (up_to_end literal_of l.line l.lits (words l.rest) ≡ up_to_end literal_of l.line [] (words l.text))

abbrev pub decreases-loop-word : goal.decreases-loop-word
decreases-loop-word l = length l.rest
