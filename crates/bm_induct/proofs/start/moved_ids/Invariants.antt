use Rattle.std.specs.Prelude.{◌≡◌, ◌+◌, map, take}
use Rattle.bm_induct.proofs.start.moved_ids.Given as goal

abbrev pub invariant-loop-id : goal.invariant-loop-id
invariant-loop-id l = l.made.items ≡ map (λ id. id + l.more) (take l.id-index l.ids)
