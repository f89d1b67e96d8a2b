use Rattle.std.specs.Prelude.{◌≡◌}
use Rattle.bm_induct.specs.Stages as stages
use Rattle.bm_induct.proofs.begin.put_mems.Given as goal

abbrev pub invariant-loop-own : goal.invariant-loop-own
invariant-loop-own l = l.made ≡ stages.with_mems l.how l.net l.own-index
