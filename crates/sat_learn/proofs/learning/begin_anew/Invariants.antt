use Rattle.std.proofs.Common.{List, ℤ, length}
use Rattle.sat_trail.specs.Trail.{lits, Stand}
use Rattle.sat_trail.specs.Clauses.{Within}
use Rattle.sat_propagate.specs.Laws.{IsOlder}
use Rattle.sat_learn.proofs.learning.begin_anew.Given as goal

abbrev pub invariant-loop-trail : goal.invariant-loop-trail
invariant-loop-trail l = record {
  stand : (clauses : List (List ℤ)) → Stand clauses l.fn.trail → Stand clauses l.trail;
  part : Within (lits l.trail) (lits l.fn.trail);
  older : IsOlder l.fn.trail l.trail;
}

abbrev pub decreases-loop-trail : goal.decreases-loop-trail
decreases-loop-trail l = length l.trail
