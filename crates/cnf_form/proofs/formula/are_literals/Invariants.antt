use Rattle.std.proofs.Common.{drop, ◌↔◌}
use Rattle.cnf_form.specs.Cnf.{AreLiterals}
use Rattle.cnf_form.proofs.formula.are_literals.Given as goal

abbrev pub invariant-loop-lit : goal.invariant-loop-lit
invariant-loop-lit l = AreLiterals l.vars (drop l.lit-index l.lits) ↔ AreLiterals l.vars l.lits
