use Rattle.std.proofs.Common.{◌∷◌, Some, None, map, ap, ◌∙◌, arith}
use Rattle.std.proofs.lemmas.List.{take_all}
use Rattle.sat_cubes.specs.Lifting.{listed}
use Rattle.sat_cubes.proofs.Liftings.{first_listed}
use Rattle.sat_cubes.proofs.id_map.IdMap.new.Goals as goal

pub returns : goal.returns
returns c =
    ap listed (c.loop-id.invariant
    ∙ ap (λ ids. None ∷ map (λ id. Some id) ids) (take_all c.loop-id.id-index c.args.ids.now (omega arith)))
    ∙ first_listed c.args.ids.now
