use Rattle.std.proofs.Common.{ap, sym, ◌∙◌}
use Rattle.vl_size.specs.Size.{or_none, size}
use Rattle.vl_flow_cells.proofs.constant.own_size.Goals as goal

pub returns-in-None-clause-value : goal.returns-in-None-clause-value
returns-in-None-clause-value c =
    ap or_none (sym c.in-None.is ∙ c.self_size.ensures.value ∙ ap (λ ds. size ds c.args.expr.now) c.decls.ensures)

pub returns-in-Some-clause-value : goal.returns-in-Some-clause-value
returns-in-Some-clause-value c =
    ap or_none (sym c.in-Some.is ∙ c.self_size.ensures.value ∙ ap (λ ds. size ds c.args.expr.now) c.decls.ensures)
