use Rattle.std.proofs.Common.{Some, None, ap, ◌∙◌}
use Rattle.std.proofs.Math.ListN.{set}
use Rattle.std.proofs.lemmas.List.{get_or-set_same, get_or-set_other}
use Rattle.sat_cubes.specs.Lifting.{listed, with_id}
use Rattle.sat_cubes.proofs.Liftings.{written}
use Rattle.sat_cubes.proofs.id_map.IdMap.put.Goals as goal

pub returns : goal.returns
returns c =
    let items = c.widen.new.ids.items in
    written items (set items c.args.id (Some c.args.to)) c.args.id c.args.to
    (λ i n. get_or-set_other items c.args.id i (Some c.args.to) None n)
    (get_or-set_same items c.args.id (Some c.args.to) None c.in_ok-widen.ensures.within)
    ∙ ap (λ l. with_id l c.args.id c.args.to) (c.in_ok-widen.ensures.same ∙ ap listed c.self.view_is)
