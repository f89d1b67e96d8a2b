use Rattle.std.proofs.Common.{◌≡◌, false, length, reverse}
use Rattle.sat_trail.specs.Trail.{decided}
use Rattle.sat_learn.specs.Analysis.{Derives}
use Rattle.sat_learn.proofs.analysis.to_empty.Given as goal

abbrev pub invariant-loop-entry : goal.invariant-loop-entry
invariant-loop-entry l = Derives l.clauses l.trail l.set (reverse l.tracing.hints.items) × (decided l.trail ≡ false)

abbrev pub decreases-loop-entry : goal.decreases-loop-entry
decreases-loop-entry l = length l.trail
