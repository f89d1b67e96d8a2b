use Rattle.vl_elab_decls.proofs.Bounded.{declared_fits}
use Rattle.vl_elab_decls.proofs.shape_items.add_declaration.Goals as goal

pub add_names-requires : goal.add_names-requires
add_names-requires c =
    declared_fits c.args.names.now c.args.attributes.now c.args.declaration.now c.in_ok-form.form c.in_ok-form.ensures
