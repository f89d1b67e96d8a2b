use Rattle.std.proofs.Common.{◌≡◌, ◌∙◌, ap, sym}
use Rattle.std.proofs.lemmas.Result.{on_ok_weaker}
use Rattle.vl_tree.specs.Item.{parameter}
use Rattle.vl_tree.specs.ItemView.{shown}
use Rattle.vl_elab_const.specs.Given.{value_given}
use Rattle.vl_elab_flatten.proofs.Adding.{item_added}
use Rattle.vl_elab_flatten.proofs.constants.add_item.Goals as goal

pub returns-in-Parameter : goal.returns-in-Parameter
returns-in-Parameter c =
    let a = c.item.inside.attributes in
    let p = c.item.inside.pos in
    let same : parameter a p c.in-Parameter.kind c.in-Parameter.all ≡ c.args.item.now =
    ap (shown a p) (sym c.in-Parameter.is) ∙ c.item.view_is in
    on_ok_weaker c.add_declared.result (λ h. item_added (value_given c.args.given.now) a p c.in-Parameter.kind
    c.in-Parameter.all c.as_slice.result.now c.args.item.now c.args.scope.now c.add_declared.new.scope
    c.args.numbers.now c.add_declared.new.numbers same c.as_slice.ensures h) c.add_declared.ensures
