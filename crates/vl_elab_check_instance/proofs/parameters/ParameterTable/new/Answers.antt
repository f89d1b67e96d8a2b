use Rattle.std.proofs.Common.{sym}
use Rattle.std.proofs.lemmas.Result.{IfOk-weaker}
use Rattle.vl_mean.specs.Walk.{header_of}
use Rattle.vl_elab_check_instance.specs.Parameters.{AreParameters, AreParametersOf}
use Rattle.vl_elab_check_instance.proofs.Found.{other_lists}
use Rattle.vl_elab_check_instance.proofs.parameters.ParameterTable.new.Goals as goal

pub returns : goal.returns
returns c =
    IfOk-weaker c.of.result (λ table. AreParameters table c.header_of.result.now c.as_slice.result.now)
    (λ table. AreParametersOf table c.args.module.now)
    (λ table h. other_lists table (header_of c.args.module.now.parameters) c.header_of.result.now
    c.args.module.now.items c.as_slice.result.now (sym c.header_of.ensures) (sym c.as_slice.ensures) h) c.of.ensures
