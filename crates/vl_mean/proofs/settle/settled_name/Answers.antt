use Rattle.std.proofs.Common.{◌∙◌, ap, sym}
use Rattle.std.specs.Option.{option_copied}
use Rattle.vl_tree.specs.Expr.{name}
use Rattle.vl_tree.specs.ExprView.{selects}
use Rattle.vl_mean.specs.Params.{constant}
use Rattle.vl_mean.proofs.Making.{name_selected, not_empty}
use Rattle.vl_mean.proofs.settle.settled_name.Goals as goal

pub returns : goal.returns
returns c =
    name_selected c.selected.result c.args.pos c.args.text.now c.args.all c.named-name.result
    (constant c.args.params.now c.args.text.now)
    c.in-Some.value.now (not_empty c.args.all c.is_empty-is_whole.result c.is_empty-is_whole.ensures.1
    c.if-is_whole.false)
    (c.named-name.ensures ∙ ap (λ t. name c.args.pos t (selects c.args.all)) c.in_ok-copied.ensures)
    (sym c.get.ensures ∙ ap option_copied c.in-Some.is) c.selected.ensures
