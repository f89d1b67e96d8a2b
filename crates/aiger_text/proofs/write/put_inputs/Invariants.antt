use Rattle.std.proofs.Common.{◌≡◌, ◌+◌, ◌++◌, drop}
use Rattle.aiger_text.specs.Written.{inputs_text}
use Rattle.aiger_text.proofs.write.put_inputs.Given as goal

abbrev pub invariant-loop-index : goal.invariant-loop-index
invariant-loop-index l =
    l.out.items ++ inputs_text (l.index + 1) (drop l.index l.nodes) ≡ l.initial.out.items ++ inputs_text 1 l.nodes
