use Rattle.std.proofs.lemmas.Result.{on_ok_weaker}
use Rattle.vl_elab_decls.specs.Forms.{declared_class}
use Rattle.vl_elab_decls.proofs.Declared.{declared_so}
use Rattle.vl_elab_decls.proofs.decls_items.add_declaration.Goals as goal

pub returns : goal.returns
returns c =
    let d = c.args.declaration.now in
    on_ok_weaker c.add_names.result (λ e ss h k. declared_so ss (declared_class c.args.attributes.now d.net) d.shape
    c.in_ok-form.form (c.in_ok-form.ensures ss h) d.names c.as_slice.result.now c.as_slice.ensures c.args.decls.now
    c.add_names.new.decls k (e ss h))
    c.add_names.ensures
