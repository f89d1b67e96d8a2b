use Rattle.std.specs.Prelude.{◌≡◌}
use Rattle.bm_induct.specs.Stages as stages
use Rattle.bm_induct.proofs.behind.put_nexts.Given as goal

abbrev pub invariant-loop-index : goal.invariant-loop-index
invariant-loop-index l = record {
  nexts : l.made ≡ stages.with_nexts l.fn.how l.net l.index;
  stand : stages.Stand l.net l.made;
}
