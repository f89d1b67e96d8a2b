use Rattle.std.proofs.Common.{ap, ◌∙◌}
use Rattle.vl_size.specs.Size.{cells_in, value}
use Rattle.vl_lower_stmt.proofs.Values.{bound_is, evaluated, names_sized, number_at}
use Rattle.vl_lower_stmt.proofs.value.number_in.Goals as goal

pub term-requires-clause-bound : goal.term-requires-clause-bound
term-requires-clause-bound c =
    bound_is c.args.layout.decls.now c.args.layout.places.now c.requires.layout c.args.net.now c.args.cells.now _
    c.names_over-names.ensures c.requires.cells

pub term-requires-clause-sized : goal.term-requires-clause-sized
term-requires-clause-sized c =
    names_sized c.args.layout.decls.now c.args.layout.places.now c.args.cells.now _ c.args.expr.now
    c.names_over-names.ensures c.requires.sized

pub returns : goal.returns
returns c =
    let ds = c.args.layout.decls.now in
    let kind = c.args.kind in
    let is = c.names_over-names.ensures in
    evaluated ds c.args.layout.places.now c.requires.layout _ _ c.args.cells.now _ _ _ _ _ is c.in_ok-node.ensures
    (λ g v. ap (λ b. value b.decls (cells_in v) kind.width kind.signed c.args.expr.now) is ∙ number_at ds v
    kind.width kind.signed c.args.expr.now)
