use Rattle.std.proofs.Common.{◌∙◌, ap, sym}
use Rattle.vl_tree.specs.ItemView.{shown}
use Rattle.vl_elab_places.specs.Passing.{expr_passed, own_passed}
use Rattle.vl_elab_places.proofs.Declared.{if_passed}
use Rattle.vl_elab_places.proofs.items.pass_item.Goals as goal

pub returns-in-If : goal.returns-in-If
returns-in-If c =
    let attrs = c.item.inside.attributes in
    let p = c.item.inside.pos in
    let e = c.in-If.condition in
    c.pass_expr-in-If.ensures ∙ ap (expr_passed e) c.moved-at.ensures
    ∙ if_passed attrs p e c.in-If.field-1 c.in-If.field-2 c.args.start
    ∙ ap (λ x. own_passed x c.args.start) (ap (shown attrs p) (sym c.in-If.is) ∙ c.item.view_is)
