use Rattle.std.proofs.Common.{◌≡◌, ◌+◌, ◌++◌, drop}
use Rattle.aiger_text.specs.Written.{gates_text}
use Rattle.aiger_text.proofs.write.put_gates.Given as goal

abbrev pub invariant-loop-index : goal.invariant-loop-index
invariant-loop-index l =
    l.out.items ++ gates_text (l.index + 1) (drop l.index l.nodes) ≡ l.initial.out.items ++ gates_text 1 l.nodes
