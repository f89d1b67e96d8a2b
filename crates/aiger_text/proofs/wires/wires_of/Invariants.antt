use Rattle.std.proofs.Common.{◌≡◌, Some, map, take, drop}
use Rattle.aiger_text.specs.declared.wires.Wire.{Wire}
use Rattle.aiger_text.specs.Profile.{unknown_line}
use Rattle.aiger_text.specs.Wires.{wire_of}
use Rattle.aiger_text.proofs.wires.wires_of.Given as goal

abbrev pub invariant-loop-gate : goal.invariant-loop-gate
invariant-loop-gate l = record {
  made : map (λ (w : Wire). Some w) l.wires.items ≡ map (wire_of l.variables.keys) (take l.gate-index l.gates);
  left : unknown_line l.variables.keys (drop l.gate-index l.gates) ≡ unknown_line l.variables.keys l.gates;
}
