use Rattle.std.proofs.Common.{◌≡◌, length, reverse}
use Rattle.sat_trail.specs.Trail.{lits, below}
use Rattle.sat_trail.specs.Clauses.{Within}
use Rattle.sat_learn.specs.Analysis.{Derives, SameLevel}
use Rattle.sat_learn.proofs.analysis.trace.Given as goal

abbrev pub invariant-walk : goal.invariant-walk
invariant-walk l = record {
  derives : Derives l.clauses l.trail l.set (reverse l.tracing.hints.items);
  level : SameLevel l.fn.trail l.trail;
  part : Within (lits l.trail) (lits l.fn.trail);
  start : l.tracing.start ≡ length (below l.fn.trail);
}

abbrev pub decreases-walk : goal.decreases-walk
decreases-walk l = length l.trail
