use Rattle.std.proofs.Common.{◌≡◌, ◌-◌, ◌≤◌, length}
use Rattle.rvf_jobs.specs.Answers.{AreAnswers}
use Rattle.sat_cubes.specs.Parts.{IsPart}
use Rattle.sat_cubes.proofs.solving.parts_of.Given as goal

abbrev pub invariant-batches : goal.invariant-batches
invariant-batches g l = (length l.parts.items ≤ l.count)
    × AreAnswers (IsPart l.job.formula.now l.job.split.now l.job.share) 0 (length l.parts.items) l.parts.items

abbrev pub decreases-batches : goal.decreases-batches
decreases-batches g l = l.count - length l.parts.items
