use Rattle.std.specs.Prelude.{refl}
use Rattle.vl_elab_decls.proofs.decls_ports.port_form.Goals as goal

pub returns : goal.returns
returns c ss h = record {
  direction = refl;
  kind = refl;
  signed = refl;
  extent = c.in_ok-extent.ensures ss h;
}
