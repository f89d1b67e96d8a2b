use Rattle.std.proofs.Common.{◌-◌, length}
use Rattle.sat_propagate.specs.Propagation.{Holds}
use Rattle.sat_propagate.proofs.propagation.Propagation.take_up.Given as goal

abbrev pub invariant-taking : goal.invariant-taking
invariant-taking l = Holds l.clauses l.trail l.self

abbrev pub decreases-taking : goal.decreases-taking
decreases-taking l = length l.clauses - l.self.many
