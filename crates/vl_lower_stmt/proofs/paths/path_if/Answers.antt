use Rattle.vl_lower_stmt.proofs.Branches.{entered}
use Rattle.vl_lower_stmt.proofs.paths.path_if.Goals as goal

pub returns : goal.returns
returns c =
    entered c.args.layout.decls.now _ _ _ c.args.cells.now c.args.path _ _ (λ b. b) c.args.expr.now c.requires.path
    c.in_ok-test.ensures c.in_ok-inner.ensures.adds c.in_ok-inner.ensures.there c.in_ok-inner.ensures.value
