use Rattle.std.proofs.Common.{◌≡◌, true, reverse}
use Rattle.lrat_check.specs.Sets.{reading}
use Rattle.sat_trail.specs.Trail.{lits, below}
use Rattle.sat_learn.specs.Analysis.{Resolves, is_unit}
use Rattle.sat_learn.proofs.shortening.shorten.Given as goal

abbrev pub invariant-loop-lit : goal.invariant-loop-lit
invariant-loop-lit l = record {
  resolves : Resolves l.clauses l.trail l.set (reverse l.hints.items);
  unit : is_unit (reading (lits (below l.trail)) l.set) ≡ true;
}
