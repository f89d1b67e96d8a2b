use Rattle.std.proofs.Common.{◌≡◌, ◌++◌, drop}
use Rattle.bb_cuts.specs.Covers.{cover_clauses}
use Rattle.bb_cuts.proofs.clause.push_cover.Given as goal

abbrev pub invariant-loop-cube : goal.invariant-loop-cube
invariant-loop-cube l = record {
  left : l.formula.clauses ++ cover_clauses l.vars l.out (drop l.cube-index l.cubes)
      ≡ l.fn.formula.clauses ++ cover_clauses l.vars l.out l.cubes;
  vars : l.formula.vars ≡ l.fn.formula.vars;
}
