use Rattle.std.proofs.Common.{◌≡◌, drop}
use Rattle.cnf_form.specs.Cnf.{clause_true, value_of}
use Rattle.sat_search.proofs.judging.any_true.Given as goal

abbrev pub invariant-loop-lit : goal.invariant-loop-lit
invariant-loop-lit l =
    clause_true (value_of l.values) (drop l.lit-index l.lits) ≡ clause_true (value_of l.values) l.lits
