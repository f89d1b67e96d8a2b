use Rattle.std.proofs.Common.{◌≡◌, ◌∙◌, [], ap, sym, rules}
use Rattle.std.specs.Prelude.{max}
use Rattle.vl_tree.specs.Expr.{binary}
use Rattle.vl_tree.specs.ExprView.{shown}
use Rattle.vl_size.specs.Size.{no_names, operand_of}
use Rattle.vl_elab_spec.specs.Expressions.{known}
use Rattle.vl_elab_const.proofs.Operating.{operation_is}
use Rattle.vl_elab_const.proofs.operation.operation_number.Goals as goal

pub returns-in_ok-y-in-Binary : goal.returns-in_ok-y-in-Binary
returns-in_ok-y-in-Binary c =
    let ns = c.args.numbers.now in
    let pos = c.expr.inside.pos in
    let op = c.in-Binary.operator in
    let x = c.deref.result.now in
    let y = c.deref-in-Binary.result.now in
    let left : c.deref.result.now ≡ c.in-Binary.left.value = search rules in
    let right : c.deref-in-Binary.result.now ≡ c.in-Binary.right.value = search rules in
    let is : binary pos op x y ≡ c.args.expr.now =
    (λ i. binary pos op (left i) (right i)) ∙ ap (shown pos) (sym c.in-Binary.is) ∙ c.expr.view_is in
    operation_is op pos (known ns x) (known ns y) c.in_ok-x-in-Binary.x c.in_ok-y-in-Binary.y c.args.least
    c.operation_at.result (sym c.divides.ensures ∙ c.if-divides.false) c.in_ok-x-in-Binary.ensures
    c.in_ok-y-in-Binary.ensures c.operation_at.ensures
    ∙ ap (λ e. let o = operand_of [] no_names (known ns e) in o.at (max c.args.least o.size) o.sign) is
