use Rattle.std.proofs.Common.{◌≤◌, ◌-◌}
use Rattle.wn_mem.proofs.bits.bits_for.Given as goal

abbrev pub invariant-loop-bits : goal.invariant-loop-bits
invariant-loop-bits l = l.bits ≤ 63

abbrev pub decreases-loop-bits : goal.decreases-loop-bits
decreases-loop-bits l = 63 - l.bits
