use Rattle.std.proofs.Common.{◌≡◌}
use Rattle.bb_cuts.specs.Variables.{AreTold}
use Rattle.bb_cuts.proofs.network.add_cells.Given as goal

abbrev pub invariant-loop-cell : goal.invariant-loop-cell
invariant-loop-cell l = record {
  vars : l.formula.vars ≡ l.fn.formula.vars;
  told : AreTold l.aig l.fn.nodes.items l.fn.formula.clauses → AreTold l.aig l.nodes.items l.formula.clauses;
}
