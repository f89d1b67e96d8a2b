use Rattle.std.specs.Prelude.{◌≡◌, map, take}
use Rattle.bm_induct.specs.Stages as stages
use Rattle.bm_induct.proofs.behind.put_writes.Given as goal

abbrev pub invariant-loop-write : goal.invariant-loop-write
invariant-loop-write l = record {
  new : l.made ≡ record l.fn.made {
    mems = stages.with_writes l.index (map (stages.moved_write l.net) (take l.write-index l.writes)) l.fn.made.mems;
  };
  stand : stages.Stand l.net l.made;
}
