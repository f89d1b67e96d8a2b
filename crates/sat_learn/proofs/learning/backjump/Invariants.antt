use Rattle.std.proofs.Common.{◌≡◌, true, length}
use Rattle.lrat_check.specs.Sets.{reading}
use Rattle.sat_trail.specs.Trail.{lits, Stand}
use Rattle.sat_trail.specs.Clauses.{Within}
use Rattle.sat_propagate.specs.Laws.{IsOlder}
use Rattle.sat_learn.specs.Analysis.{FalseLast, is_unit}
use Rattle.sat_learn.proofs.learning.backjump.Given as goal

abbrev pub invariant-loop-trail : goal.invariant-loop-trail
invariant-loop-trail l = record {
  stand : Stand l.clauses l.trail;
  unit : is_unit (reading (lits l.trail) l.lits) ≡ true;
  part : Within (lits l.trail) (lits l.fn.trail);
  older : IsOlder l.fn.trail l.trail;
  last : FalseLast l.trail l.lits l.last;
}

abbrev pub decreases-loop-trail : goal.decreases-loop-trail
decreases-loop-trail l = length l.trail
