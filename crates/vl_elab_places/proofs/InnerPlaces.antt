-- What the turns of a loop add to an item.
use Rattle.std.specs.Prelude.{◌≡◌, refl, Some, None}
use Rattle.std.proofs.Common.{ap, sym, ◌∙◌}
use Rattle.fv_text.specs.declared.pos.Pos.{Pos}
use Rattle.vl_tree.specs.declared.item.ItemKind.{ItemKind}
use Rattle.vl_tree.specs.declared.item.ItemKind.TheVariants as k
use Rattle.vl_tree.specs.Attributes.{Attributes}
use Rattle.vl_tree.specs.Item.{Item}
use Rattle.vl_tree.specs.ItemView.{shown}
use Rattle.vl_mean.specs.Walk.{Place}
use Rattle.vl_elab_spec.specs.Counts.{item_pos}
use Rattle.vl_elab_spec.specs.NodePlaces.{inner_places}
use Rattle.vl_elab_places.specs.declared.cursor.Cursor.{Cursor}
use Rattle.vl_elab_places.specs.Passing.{passed}

-- ---- where an item stands

pub shown_pos : (attrs : Attributes) (p : Pos) (kind : ItemKind) → item_pos (shown attrs p kind) ≡ p
shown_pos attrs p (k.Declaration d) = refl
shown_pos attrs p (k.Integer names) = refl
shown_pos attrs p (k.Genvar names) = refl
shown_pos attrs p (k.Parameter kind ps) = refl
shown_pos attrs p (k.Assign xs) = refl
shown_pos attrs p (k.Always event s) = refl
shown_pos attrs p (k.Initial s) = refl
shown_pos attrs p (k.Instance x) = refl
shown_pos attrs p (k.Generate mark) = refl
shown_pos attrs p (k.For head body) = refl
shown_pos attrs p (k.If c first None) = refl
shown_pos attrs p (k.If c first (Some second)) = refl

-- of the same item
pub inner_of : (at : Place) (x y : Item) (r c : Cursor) → x ≡ y → r ≡ passed (inner_places at y) c
    → r ≡ passed (inner_places at x) c
inner_of at x y r c e made = made ∙ ap (λ z. passed (inner_places at z) c) (sym e)
