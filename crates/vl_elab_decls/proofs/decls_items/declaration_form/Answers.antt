use Rattle.std.specs.Prelude.{refl}
use Rattle.std.proofs.Common.{◌∙◌, ap}
use Rattle.vl_mean.specs.Declarations.{class_of_attributes, joined_attributes}
use Rattle.vl_elab_decls.proofs.decls_items.declaration_form.Goals as goal

pub returns : goal.returns
returns c ss h = record {
  class =
      c.class_of_attributes-class.ensures
      ∙ ap (λ k. class_of_attributes k (joined_attributes c.args.attributes.now)) c.class_of_kind.ensures;
  signed = refl;
  inside = refl;
  extent = c.in_ok-extent.ensures ss h;
}
