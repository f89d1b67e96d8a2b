use Rattle.std.proofs.Common.{◌≡◌, ◌≤◌}
use Rattle.vl_elab.specs.Bits.{bits_outside}
use Rattle.vl_elab.proofs.count.bits_outside.Given as goal

abbrev pub invariant-loop-bit : goal.invariant-loop-bit
invariant-loop-bit l = record {
  count : l.count ≡ bits_outside l.mask l.bit;
  few : l.count ≤ l.bit;
}
