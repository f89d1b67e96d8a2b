use Rattle.std.proofs.Common.{◌≡◌, drop}
use Rattle.vl_text.specs.Assumptions.{first_end}
use Rattle.vl_text.proofs.top_module.first_end.Given as goal

abbrev pub invariant-loop-index : goal.invariant-loop-index
invariant-loop-index l = first_end l.index (drop l.index l.tokens) ≡ first_end l.from (drop l.from l.tokens)
