use Rattle.std.proofs.Common.{◌≡◌, ◌∷◌, map, take, Some, None}
use Rattle.sat_cubes.proofs.id_map.IdMap.new.Given as goal

abbrev pub invariant-loop-id : goal.invariant-loop-id
invariant-loop-id l = l.all.items ≡ None ∷ map (λ id. Some id) (take l.id-index l.ids)
