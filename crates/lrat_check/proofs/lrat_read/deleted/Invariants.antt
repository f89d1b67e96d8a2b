use Rattle.std.proofs.Common.{◌≡◌, [], length}
use Rattle.fv_lines.specs.Words.{words}
use Rattle.lrat_check.specs.Texts.{up_to_end, nonzero, short}
use Rattle.lrat_check.proofs.lrat_read.deleted.Given as goal

abbrev pub invariant-loop-word : goal.invariant-loop-word
invariant-loop-word l = up_to_end (λ w. nonzero (short w)) l.line l.ids (words l.rest)
    ≡ up_to_end (λ w. nonzero (short w)) l.line [] (words l.text)

abbrev pub decreases-loop-word : goal.decreases-loop-word
decreases-loop-word l = length l.rest
