use Rattle.vl_elab_decls.proofs.PortDecls.{next_full, next_short}
use Rattle.vl_elab_decls.proofs.decls_ports.next_form.Goals as goal

pub returns-in_ok-form-in-Full : goal.returns-in_ok-form-in-Full
returns-in_ok-form-in-Full c ss q h last =
    next_full ss q c.args.kind.now c.in-Full.port c.in_ok-form-in-Full.form c.in-Full.is
    (c.in_ok-form-in-Full.ensures ss h)

pub returns-in-Short : goal.returns-in-Short
returns-in-Short c ss q h last =
    next_short ss q c.args.kind.now c.in-Short.text c.in-Short.value c.args.last c.in-Short.is last
