use Rattle.std.specs.Prelude.{map, take}
use Rattle.wn_opt.specs.Cone.{renamed_write}
use Rattle.wn_opt.specs.Parts.{AddsWrites}
use Rattle.wn_opt.proofs.join.add_writes.Given as goal

abbrev pub invariant-loop-write : goal.invariant-loop-write
invariant-loop-write l =
    AddsWrites l.initial.part l.part l.mem (map (renamed_write l.places) (take l.write-index l.writes))
