use Rattle.std.proofs.Common.{◌∙◌, ap, sym, true≢false}
use Rattle.vl_tree.specs.ExprView.{shown}
use Rattle.vl_elab_emit.proofs.Valued.{clock_selected}
use Rattle.vl_elab_emit.proofs.joining.is_clock.Goals as goal

pub returns-else-is_empty : goal.returns-else-is_empty
returns-else-is_empty c =
    c.if-is_empty.false
    ∙ sym (clock_selected c.args.scopes.now c.expr.inside.pos c.in-Name.name c.in-Name.all c.args.expr.now
    (λ e. true≢false (sym (c.is_empty.ensures.1 e) ∙ c.if-is_empty.false))
    (sym c.expr.view_is ∙ ap (shown c.expr.inside.pos) c.in-Name.is))
