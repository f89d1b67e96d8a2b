use Rattle.std.proofs.Common.{◌∙◌, ap, sym}
use Rattle.vl_tree.specs.ItemView.{block, shown}
use Rattle.vl_elab_count.proofs.Loops.{if_nodes, loop_nodes}
use Rattle.vl_elab_count.proofs.count_items.item_nodes.Goals as goal

pub returns-in-For : goal.returns-in-For
returns-in-For c at turns =
    let item = c.item.inside in
    loop_nodes at c.args.item.now item.attributes item.pos c.in-For.head (block c.in-For.field-1) c.expr_nodes.result
    c.args.turns c.plus-in-For.result c.plus-in-For-2.result
    (sym c.item.view_is ∙ ap (shown item.attributes item.pos) c.in-For.is) turns c.expr_nodes.ensures
    c.plus-in-For.ensures c.plus-in-For-2.ensures

pub returns-in-If : goal.returns-in-If
returns-in-If c at turns =
    let item = c.item.inside in
    if_nodes at c.args.item.now item.attributes item.pos c.in-If.condition c.in-If.field-1 c.in-If.field-2
    c.if_nodes.result (sym c.item.view_is ∙ ap (shown item.attributes item.pos) c.in-If.is) c.if_nodes.ensures
