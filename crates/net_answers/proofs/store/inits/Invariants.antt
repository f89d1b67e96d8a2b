use Rattle.std.specs.List.{AllByRecursion}
use Rattle.wn_net.specs.Net.{IsInitOf}
use Rattle.net_answers.proofs.store.inits.Given as goal

abbrev pub invariant-loop-place : goal.invariant-loop-place
invariant-loop-place l = AllByRecursion (IsInitOf l.width) l.inits
