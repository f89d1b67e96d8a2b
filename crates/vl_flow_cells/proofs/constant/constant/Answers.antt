use Rattle.std.proofs.Common.{ap, ◌∙◌}
use Rattle.vl_size.specs.Size.{index_of, no_names}
use Rattle.vl_mean.specs.Env.{cells_of}
use Rattle.vl_flow_cells.proofs.Constants.{one_operand}
use Rattle.vl_flow_cells.proofs.constant.constant.Goals as goal

pub returns : goal.returns
returns c h ds =
    let env = c.args.bare.now in
    c.own.ensures ∙ ap index_of (one_operand env.decls ds (cells_of env) no_names c.args.expr.now h)
