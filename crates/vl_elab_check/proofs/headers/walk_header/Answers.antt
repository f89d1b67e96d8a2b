use Rattle.std.proofs.Common.{refl}
use Rattle.vl_mean.specs.Walk.{header}
use Rattle.vl_elab_check.proofs.headers.walk_header.Goals as goal

pub returns-clause-walked : goal.returns-clause-walked
returns-clause-walked c ms at t same said names reached gives known =
    let x = header at c.args.parameter.now in
    c.weighed.ensures ms x t (c.in_ok-fault.ensures.fault at same said names reached gives) c.parameter_nodes.ensures refl
    (c.header_place-pos.ensures x t refl (λ n. refl) refl c.parameter_nodes.ensures refl known) known
