use Rattle.std.specs.Prelude.{◌≡◌}
use Rattle.vl_lower_spec.specs.Sources.{below}
use Rattle.vl_lower.proofs.cells.bits_below.Given as goal

abbrev pub invariant-loop-bit : goal.invariant-loop-bit
invariant-loop-bit l = l.bits ≡ below l.bit
