use Rattle.std.specs.Prelude.{◌≡◌, take}
use Rattle.vl_lower_spec.specs.Sources.{below}
use Rattle.vl_lower_state.proofs.bits.are_all.Given as goal

abbrev pub invariant-loop-at : goal.invariant-loop-at
invariant-loop-at l = take l.at l.bits ≡ below l.at
