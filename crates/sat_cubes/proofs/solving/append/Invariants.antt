use Rattle.std.proofs.Common.{◌≡◌, ◌++◌}
use Rattle.sat_cubes.proofs.solving.append.Given as goal

abbrev pub invariant-loop-part : goal.invariant-loop-part
invariant-loop-part l = l.parts.items ≡ l.fn.parts.items ++ l.yielded
