use Rattle.std.specs.Prelude.{[], None}
use Rattle.std.proofs.Common.{◌∙◌, ap}
use Rattle.vl_tree.specs.Item.{items}
use Rattle.vl_elab_decls.specs.Objects.{with_items, with_ports}
use Rattle.vl_elab_decls.proofs.objects.all_objects.Goals as goal

pub returns : goal.returns
returns c =
    let ns = c.args.names.now in
    c.in_ok-add_items.ensures
    ∙ ap (λ l. with_items ns l (items c.args.all.now)) (c.in_ok-add_ports.ensures
    ∙ ap (λ l. with_ports ns c.args.inputs.now l None c.args.ports.now) c.new-level.ensures)
