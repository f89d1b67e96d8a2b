use Rattle.std.proofs.Common.{◌∙◌, ap}
use Rattle.vl_size.specs.Divisors.{own_context, own_zero_divisor, zero_divisor}
use Rattle.vl_elab_spec.specs.Meanings.{objects}
use Rattle.vl_elab_scope.proofs.Agree.{same_own, same_divisor}
use Rattle.vl_elab_scope.proofs.read.own_divisor_in.Goals as goal

pub returns : goal.returns
returns c =
    let ds = c.in_ok-decls.decls in
    let all = objects c.args.names.now in
    let e = c.in_ok-expr.expr in
    c.own_zero_divisor.ensures ∙ ap (λ k. zero_divisor ds k e) (same_own ds all e c.in_ok-decls.ensures)
    ∙ same_divisor ds all (own_context all e) e c.in_ok-decls.ensures
    ∙ ap (own_zero_divisor all) c.in_ok-expr.ensures
