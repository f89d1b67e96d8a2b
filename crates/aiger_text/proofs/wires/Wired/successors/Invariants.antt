use Rattle.std.proofs.Common.{◌≡◌, map, take}
use Rattle.aiger_text.specs.Wires.{row_of}
use Rattle.aiger_text.proofs.wires.Wired.successors.Given as goal

abbrev pub invariant-loop-wire : goal.invariant-loop-wire
invariant-loop-wire l = l.rows.items ≡ map (row_of l.self.inputs) (take l.wire-index l.wires)
