use Rattle.std.proofs.Common.{◌≡◌, ◌∙◌, ap, sym}
use Rattle.vl_tree.specs.Item.{declaration, integer}
use Rattle.vl_tree.specs.ItemView.{shown}
use Rattle.vl_elab_decls.proofs.Declared.{declaration_count, integers_count}
use Rattle.vl_elab_decls.proofs.decls_items.declared_count.Goals as goal

pub returns-in-Declaration : goal.returns-in-Declaration
returns-in-Declaration c ss =
    let a = c.item.inside.attributes in
    let p = c.item.inside.pos in
    let same : declaration a p c.in-Declaration.declaration ≡ c.args.item.now =
    ap (shown a p) (sym c.in-Declaration.is) ∙ c.item.view_is in
    declaration_count a p c.in-Declaration.declaration c.args.item.now c.len.result ss same c.len.ensures

pub returns-in-Integer : goal.returns-in-Integer
returns-in-Integer c ss =
    let a = c.item.inside.attributes in
    let p = c.item.inside.pos in
    let same : integer a p c.in-Integer.all ≡ c.args.item.now = ap (shown a p) (sym c.in-Integer.is) ∙ c.item.view_is in
    integers_count a p c.in-Integer.all c.args.item.now c.len-in-Integer.result ss same c.len-in-Integer.ensures
