use Rattle.std.specs.Prelude.{◌≡◌, map, take}
use Rattle.bm_induct.specs.MovedNames as spec
use Rattle.bm_induct.proofs.trace.moved_names.Given as goal

abbrev pub invariant-loop-name : goal.invariant-loop-name
invariant-loop-name l = l.list ≡ map (spec.moved_name l.more) (take l.name-index l.names.list)
