use Rattle.std.proofs.Common.{◌≡◌, ◌++◌, drop}
use Rattle.std.specs.List.{flat_map}
use Rattle.cnf_text.specs.Dimacs.{literal_text}
use Rattle.cnf_text.proofs.write.put_literals.Given as goal

abbrev pub invariant-loop-lit : goal.invariant-loop-lit
invariant-loop-lit l = l.out.items ++ flat_map literal_text (drop l.lit-index l.lits) ≡ l.initial.out.items
    ++ flat_map literal_text l.lits
