use Rattle.std.proofs.Common.{ap, ◌∙◌}
use Rattle.fv_bits.specs.Bits.{bit}
use Rattle.vl_size.specs.Size.{cells_in, is_true, operand_of}
use Rattle.vl_lower_stmt.proofs.Values.{bound_is, evaluated, names_sized, truth_in}
use Rattle.vl_lower_stmt.proofs.value.condition.Goals as goal

pub truth-requires-clause-bound : goal.truth-requires-clause-bound
truth-requires-clause-bound c =
    bound_is c.args.layout.decls.now c.args.layout.places.now c.requires.layout c.args.net.now c.args.cells.now _
    c.names_over-names.ensures c.requires.cells

pub truth-requires-clause-sized : goal.truth-requires-clause-sized
truth-requires-clause-sized c =
    names_sized c.args.layout.decls.now c.args.layout.places.now c.args.cells.now _ c.args.expr.now
    c.names_over-names.ensures c.requires.sized

pub returns : goal.returns
returns c =
    let ds = c.args.layout.decls.now in
    let is = c.names_over-names.ensures in
    evaluated ds c.args.layout.places.now c.requires.layout _ _ c.args.cells.now _ _ _ _ _ is c.in_ok-test.ensures
    (λ g v. ap (λ b. bit (is_true (operand_of b.decls (cells_in v) c.args.expr.now))) is ∙ truth_in ds v
    c.args.expr.now)
