use Rattle.std.proofs.Common.{ap, ◌∙◌}
use Rattle.vl_size.specs.Size.{cells_in, operand_of, or_none, own, size}
use Rattle.vl_lower_stmt.proofs.Values.{bound_is, evaluated_at, names_sized, own_in}
use Rattle.vl_lower_stmt.proofs.value.own_number.Goals as goal

pub own-requires-clause-bound : goal.own-requires-clause-bound
own-requires-clause-bound c =
    bound_is c.args.layout.decls.now c.args.layout.places.now c.requires.layout c.args.net.now c.args.cells.now _
    c.names_over-names.ensures c.requires.cells

pub own-requires-clause-sized : goal.own-requires-clause-sized
own-requires-clause-sized c =
    names_sized c.args.layout.decls.now c.args.layout.places.now c.args.cells.now _ c.args.expr.now
    c.names_over-names.ensures c.requires.sized

pub returns : goal.returns
returns c =
    let ds = c.args.layout.decls.now in
    let is = c.names_over-names.ensures in
    evaluated_at ds c.args.layout.places.now c.requires.layout _ _ c.args.cells.now _ _ _ _ _ _ is c.in_ok-node.ensures
    (ap (λ b. or_none (size b.decls c.args.expr.now)) is)
    (λ g v. ap (λ b. own (operand_of b.decls (cells_in v) c.args.expr.now)) is ∙ own_in ds v c.args.expr.now)
