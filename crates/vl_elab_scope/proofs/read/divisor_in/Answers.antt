use Rattle.std.proofs.Common.{◌∙◌, ap}
use Rattle.vl_size.specs.Divisors.{zero_divisor}
use Rattle.vl_elab_spec.specs.Meanings.{objects}
use Rattle.vl_elab_scope.proofs.Agree.{same_divisor}
use Rattle.vl_elab_scope.proofs.read.divisor_in.Goals as goal

pub returns : goal.returns
returns c =
    c.zero_divisor.ensures
    ∙ same_divisor c.in_ok-decls.decls
    (objects c.args.names.now) c.args.context c.in_ok-expr.expr c.in_ok-decls.ensures
    ∙ ap (zero_divisor (objects c.args.names.now) c.args.context) c.in_ok-expr.ensures
