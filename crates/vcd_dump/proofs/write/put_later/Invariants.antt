use Rattle.std.proofs.Common.{◌≡◌, ◌+◌, ◌++◌, drop}
use Rattle.vcd_dump.specs.Vcd.{AreValues, text_of, later_lines}
use Rattle.vcd_dump.proofs.write.put_later.Given as goal

abbrev pub invariant-loop-index : goal.invariant-loop-index
invariant-loop-index l = record {
  put : l.out.items ++ text_of (later_lines l.names (l.index + 1) l.before (drop l.index l.later))
      ≡ l.initial.out.items ++ text_of (later_lines l.names 1 l.first l.later);
  values : AreValues l.names l.before;
}
