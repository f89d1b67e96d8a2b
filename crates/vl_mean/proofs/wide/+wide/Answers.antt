use Rattle.std.proofs.Common.{rules, ◌≡◌, ◌-◌, ◌∷◌, ap, sym, ◌∙◌, arith, None}
use Rattle.std.specs.Prelude.{drop}
use Rattle.std.proofs.lemmas.Grind.{common_steps}
use Rattle.vl_mean.specs.Env.{cells_of}
use Rattle.vl_mean.specs.Params.{constant}
use Rattle.vl_tree.specs.declared.expr.ExprKind.TheVariants as k
use Rattle.vl_tree.specs.Expr.{exprs}
use Rattle.vl_tree.specs.ExprView.{shown}
use Rattle.vl_size.specs.Divisors.{valid_size}
use Rattle.vl_mean.proofs.Sized.{repeat_sized}
use Rattle.vl_mean.proofs.Joined.{wides_at}
use Rattle.vl_mean.proofs.wide.+wide.Goals as goal

pub wides-returns-in_err-wide : goal.wides-returns-in_err-wide
wides-returns-in_err-wide t c =
    let front : drop (c.loop-place.place - 1) c.args.all.now ≡ c.index-all-place.result
    ∷ drop c.loop-place.place c.args.all.now = grind (arith, common_steps) in
    let left : c.from_residual.result ≡ None = search rules in
    left ∙ sym (wides_at (constant c.args.params.now) c.args.env.now.decls
    (cells_of c.args.env.now) c.args.all.now _ _ _ front (sym c.in_err-wide.ensures))

pub wide-returns-in_ok-size-in-Repeat : goal.wide-returns-in_ok-size-in-Repeat
wide-returns-in_ok-size-in-Repeat t c =
    let counted : c.deref-in-Repeat-2.result.now ≡ c.in-Repeat.count.value = search rules in
    let sized : c.deref-in-Repeat.result.now ≡ c.in-Repeat.count.value = search rules in
    let whole : shown c.expr.inside.pos (k.Repeat c.in-Repeat.count c.in-Repeat.parts) ≡ c.args.expr.now =
    ap (shown c.expr.inside.pos) (sym c.in-Repeat.is) ∙ c.expr.view_is in
    repeat_sized (constant c.args.params.now) c.args.env.now.decls
    (cells_of c.args.env.now) c.args.expr.now c.in-Repeat.count.value c.expr.inside.pos
    c.deref-in-Repeat.result.now c.deref-in-Repeat-2.result.now c.as_slice-in-Repeat.result.now _ _ _ _ _ _ _ whole
    (ap exprs c.as_slice-in-Repeat.ensures) sized counted
    c.in_ok-wides-in-Repeat.ensures c.in_ok-size-in-Repeat.ensures
    (c.size_of.ensures.value ∙ (λ i. valid_size
    (c.decls.ensures i) c.deref-in-Repeat.result.now)) c.own.ensures.index c.wide_times.ensures c.if_sized.ensures
