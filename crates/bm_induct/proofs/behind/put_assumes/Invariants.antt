use Rattle.std.specs.Prelude.{◌≡◌}
use Rattle.bm_induct.specs.Stages as stages
use Rattle.bm_induct.proofs.behind.put_assumes.Given as goal

abbrev pub invariant-loop-id : goal.invariant-loop-id
invariant-loop-id l = record {
  assumes : l.made ≡ stages.with_assumes l.fn.how l.net l.id-index;
  stand : stages.Stand l.net l.made;
}
