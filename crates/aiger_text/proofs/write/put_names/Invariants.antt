use Rattle.std.proofs.Common.{◌≡◌, ◌++◌, drop}
use Rattle.aiger_text.specs.Written.{names_text}
use Rattle.aiger_text.proofs.write.put_names.Given as goal

abbrev pub invariant-loop-index : goal.invariant-loop-index
invariant-loop-index l =
    l.out.items ++ names_text l.index (drop l.index l.names) ≡ l.initial.out.items ++ names_text 0 l.names
