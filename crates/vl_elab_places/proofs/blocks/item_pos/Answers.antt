use Rattle.std.proofs.Common.{◌∙◌, ap, sym}
use Rattle.vl_elab_spec.specs.Counts.{item_pos}
use Rattle.vl_elab_places.proofs.InnerPlaces.{shown_pos}
use Rattle.vl_elab_places.proofs.blocks.item_pos.Goals as goal

pub returns : goal.returns
returns c =
    let inside = c.item.inside in
    sym (shown_pos inside.attributes inside.pos inside.kind) ∙ ap item_pos c.item.view_is
