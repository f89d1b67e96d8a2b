use Rattle.std.specs.Prelude.{not}
use Rattle.vl_lower_stmt.proofs.Branches.{entered, enters_on}
use Rattle.vl_lower_stmt.proofs.Conditions.{evaluates_on}
use Rattle.vl_lower_stmt.proofs.paths.two_paths.Goals as goal

pub returns-clause-taken : goal.returns-clause-taken
returns-clause-taken c =
    let ds = c.args.layout.decls.now in
    enters_on ds _ _ _ c.args.cells.now c.args.path (λ b. b) c.args.expr.now _
    (entered ds _ _ _ c.args.cells.now c.args.path _ _ (λ b. b) c.args.expr.now c.requires.path c.in_ok-test.ensures
    c.in_ok-taken.ensures.adds c.in_ok-taken.ensures.there c.in_ok-taken.ensures.value)
    c.in_ok-other.ensures.adds

pub returns-clause-other : goal.returns-clause-other
returns-clause-other c =
    let ds = c.args.layout.decls.now in
    entered ds _ _ _ c.args.cells.now c.args.path _ _ (λ b. not b) c.args.expr.now c.requires.path
    (evaluates_on ds _ _ _ c.args.cells.now _ _ _ c.in_ok-test.ensures c.in_ok-taken.ensures.adds)
    c.in_ok-other.ensures.adds c.in_ok-other.ensures.there c.in_ok-other.ensures.value
