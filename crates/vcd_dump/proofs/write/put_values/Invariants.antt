use Rattle.std.proofs.Common.{◌≡◌, ◌++◌, drop}
use Rattle.vcd_dump.specs.Vcd.{text_of, value_lines}
use Rattle.vcd_dump.proofs.write.put_values.Given as goal

abbrev pub invariant-loop-index : goal.invariant-loop-index
invariant-loop-index l = l.out.items ++ text_of (value_lines l.index (drop l.index l.names) (drop l.index l.values))
    ≡ l.initial.out.items ++ text_of (value_lines 0 l.names l.values)
