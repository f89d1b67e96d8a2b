use Rattle.vl_elab_decls.proofs.Bounded.{decl_shaped, decl_plain}
use Rattle.vl_elab_decls.proofs.shape_forms.with_extent.Goals as goal

pub object-requires-clause-shaped : goal.object-requires-clause-shaped
object-requires-clause-shaped c =
    decl_shaped c.args.form c.args.extent c.args.name.now c.args.words c.in_ok-decl.decl c.in_ok-decl.ensures c.requires
