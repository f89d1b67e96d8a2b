use Rattle.std.proofs.Common.{◌≡◌, drop}
use Rattle.cnf_form.specs.Cnf.{formula_true, value_of}
use Rattle.sat_search.proofs.judging.all_true.Given as goal

abbrev pub invariant-loop-index : goal.invariant-loop-index
invariant-loop-index l = formula_true (value_of l.values) (drop l.index l.formula.clauses)
    ≡ formula_true (value_of l.values) l.formula.clauses
