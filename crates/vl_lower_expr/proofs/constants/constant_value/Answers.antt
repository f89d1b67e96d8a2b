use Rattle.std.proofs.Common.{◌∙◌}
use Rattle.vl_mean.specs.Env.{cells_of}
use Rattle.vl_flow_cells.proofs.Constants.{one_value}
use Rattle.vl_lower_expr.proofs.constants.constant_value.Goals as goal

pub returns-clause-value : goal.returns-clause-value
returns-clause-value c = λ ds v.
    let env = c.args.env.now in
    c.value.ensures.value
    ∙ one_value env.decls ds (cells_of env) v c.args.width c.args.signed c.args.expr.now c.requires.constant
