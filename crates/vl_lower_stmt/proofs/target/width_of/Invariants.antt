use Rattle.std.specs.Prelude.{◌≡◌, ◌+◌, drop}
use Rattle.vl_lower_assign.specs.Frames.{slots_width}
use Rattle.vl_lower_stmt.proofs.target.width_of.Given as goal

abbrev pub invariant-loop-slot : goal.invariant-loop-slot
invariant-loop-slot l = l.width + slots_width (drop l.slot-index l.slots) ≡ slots_width l.slots
