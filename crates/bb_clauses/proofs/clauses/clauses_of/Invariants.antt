use Rattle.std.proofs.Common.{ℕ, ◌≡◌, ◌+◌, ◌++◌, drop, length}
use Rattle.bb_aig.specs.Graph.{AreFitting}
use Rattle.bb_clauses.specs.Clauses.{clauses_from}
use Rattle.bb_clauses.proofs.clauses.clauses_of.Given as goal

abbrev pub invariant-loop-index : goal.invariant-loop-index
invariant-loop-index l = record {
  left : l.formula.clauses ++ clauses_from (l.index + 1) (drop l.index l.behind) ≡ clauses_from 0 l.aig;
  vars : l.formula.vars ≡ length l.aig;
  inputs : (i : ℕ) × AreFitting (l.index + 1) i (drop l.index l.behind);
}
