use Rattle.std.specs.Prelude.{IfSome}
use Rattle.std.proofs.Common.{subst}
use Rattle.vl_elab_decls.specs.Objects.{Fits}
use Rattle.vl_elab_decls.proofs.Bounded.{port_fits}
use Rattle.vl_elab_decls.proofs.shape_ports.add_port.Goals as goal

pub add_declared-requires : goal.add_declared-requires
add_declared-requires c =
    port_fits c.args.inputs.now c.in-Some.form c.args.name.now c.form_of_port-form.result c.form_of_port-form.ensures
    (subst (λ o. IfSome o (λ f. Fits f.extent)) c.in-Some.is c.requires)
