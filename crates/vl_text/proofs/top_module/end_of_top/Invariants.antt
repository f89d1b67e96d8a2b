use Rattle.std.proofs.Common.{◌≡◌, drop}
use Rattle.vl_text.specs.Assumptions.{end_of_top}
use Rattle.vl_text.proofs.top_module.end_of_top.Given as goal

abbrev pub invariant-loop-index : goal.invariant-loop-index
invariant-loop-index l = end_of_top l.index (drop l.index l.tokens) ≡ end_of_top 0 l.tokens
