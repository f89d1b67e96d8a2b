use Rattle.vl_elab_spec.specs.Meanings.{constants, objects}
use Rattle.vl_elab_scope.proofs.Dividing.{none_divided_own}
use Rattle.vl_elab_scope.proofs.read.own_zero_divisor_of.Goals as goal

pub returns-else-has_division : goal.returns-else-has_division
returns-else-has_division c =
    none_divided_own (constants c.args.names.now) (objects c.args.names.now) c.args.expr.now c.has_division.result
    c.has_division.ensures c.if-has_division.false
