use Rattle.std.proofs.Common.{◌≡◌, ◌++◌, drop}
use Rattle.vcd_dump.specs.Vcd.{text_of, name_lines}
use Rattle.vcd_dump.proofs.write.put_names.Given as goal

abbrev pub invariant-loop-index : goal.invariant-loop-index
invariant-loop-index l = l.out.items ++ text_of (name_lines l.index (drop l.index l.names)) ≡ l.initial.out.items
    ++ text_of (name_lines 0 l.names)
