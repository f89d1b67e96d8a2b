use Rattle.std.proofs.Common.{◌≡◌}
use Rattle.vl_text.specs.Steps.{sorted}
use Rattle.vl_text.proofs.assumptions.sort_out.Given as goal

abbrev pub invariant-loop-token : goal.invariant-loop-token
invariant-loop-token l = l.all ≡ sorted l.section l.yielded
