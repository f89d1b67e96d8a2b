use Rattle.std.proofs.Common.{subst}
use Rattle.std.proofs.lemmas.Result.{IfOk-weaker}
use Rattle.vl_elab_check_instance.specs.Ports.{AreDirections, AreDirectionsOf}
use Rattle.vl_elab_check_instance.proofs.ports.PortTable.new.Goals as goal

pub returns : goal.returns
returns c =
    IfOk-weaker c.of.result (λ table. AreDirections table c.ports_of.result.now)
    (λ table. AreDirectionsOf table c.args.module.now)
    (λ table h. subst (AreDirections table) c.ports_of.ensures h) c.of.ensures
