use Rattle.std.proofs.lemmas.Result.{on_ok_weaker}
use Rattle.vl_elab_decls.proofs.Declared.{integers_so}
use Rattle.vl_elab_decls.proofs.decls_items.add_integers.Goals as goal

pub returns : goal.returns
returns c =
    on_ok_weaker c.add_names.result (λ e ss h k. integers_so ss c.args.attributes.now c.integer_form-form.result
    c.integer_form-form.ensures c.args.all.now c.args.decls.now c.add_names.new.decls k (e ss h))
    c.add_names.ensures
