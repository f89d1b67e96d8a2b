use Rattle.std.proofs.Common.{◌↔◌, drop}
use Rattle.wn_net.specs.Given.{AreMemsOf}
use Rattle.wn_net.proofs.given.mems_fit.Given as goal

abbrev pub invariant-loop-index : goal.invariant-loop-index
invariant-loop-index l = AreMemsOf (drop l.index l.mems) (drop l.index l.numbers) ↔ AreMemsOf l.mems l.numbers
