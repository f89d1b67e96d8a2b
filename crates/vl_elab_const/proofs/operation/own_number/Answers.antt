use Rattle.std.proofs.Common.{◌≡◌, ◌∙◌, [], ap, sym}
use Rattle.vl_tree.specs.declared.expr.ExprKind.TheVariants as k
use Rattle.vl_tree.specs.Expr.{name, whole}
use Rattle.vl_tree.specs.ExprView.{selects, shown}
use Rattle.vl_elab_spec.specs.Expressions.{known}
use Rattle.vl_elab_const.proofs.Operating.{here, no_selects}
use Rattle.vl_elab_const.proofs.operation.own_number.Goals as goal

pub returns-in-Number : goal.returns-in-Number
returns-in-Number c =
    let is : shown c.expr.inside.pos (k.Number c.in-Number.number)
    ≡ c.args.expr.now = ap (shown c.expr.inside.pos) (sym c.in-Number.is) ∙ c.expr.view_is in
    (c.expr.inside.pos, ap (known c.args.numbers.now) (sym is))

pub returns-in-empty : goal.returns-in-empty
returns-in-empty c =
    let pos = c.expr.inside.pos in
    let none : c.in-Name.all ≡ [] =
    sym c.as_slice.ensures ∙ no_selects c.as_slice.result.now c.in-empty.len_below in
    let is : name pos c.in-Name.text whole ≡ c.args.expr.now =
    (λ i. name pos c.in-Name.text (selects (sym none i))) ∙ ap (shown pos) (sym c.in-Name.is) ∙ c.expr.view_is in
    here c.constant_number.result c.args.numbers.now c.in-Name.text pos c.args.expr.now is c.constant_number.ensures
