use Rattle.std.specs.Prelude.{◌≡◌, map, take}
use Rattle.wn_opt.specs.Cone.{place}
use Rattle.wn_opt.proofs.rebuild.places_at.Given as goal

abbrev pub invariant-loop-id : goal.invariant-loop-id
invariant-loop-id l = l.made.items ≡ map (place l.places) (take l.id-index l.ids)
