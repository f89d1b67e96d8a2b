-- Wild bits of labels.
use Rattle.std.specs.Prelude.{◌≡◌, refl, ℕ, Bool}
use Rattle.fv_text.specs.declared.number.Number.{Number}
use Rattle.fv_text.specs.declared.pos.Pos.{Pos}
use Rattle.vl_tree.specs.declared.expr.ExprKind.{ExprKind}
use Rattle.vl_tree.specs.declared.expr.ExprKind.TheVariants as k
use Rattle.vl_tree.specs.declared.stmt.CaseKind.TheVariants as c
use Rattle.vl_tree.specs.ExprView.{shown}
use Rattle.vl_mean.specs.Execution.{wild_bits}

-- what is no number has none
pub no_wild : (p : Pos) (e : ExprKind) (w : ℕ) (s : Bool) → ((n : Number) → e ≡ k.Number n → ⊥)
    → 0 ≡ wild_bits c.Casez w s (shown p e)
no_wild p (k.Number n) w s h = absurd (h n refl)
no_wild p (k.Name text ss) w s h = refl
no_wild p (k.Paren a) w s h = refl
no_wild p (k.Unary op a) w s h = refl
no_wild p (k.Binary op a b) w s h = refl
no_wild p (k.Conditional q a b) w s h = refl
no_wild p (k.Concat es) w s h = refl
no_wild p (k.Repeat n es) w s h = refl
no_wild p (k.Cast to a) w s h = refl
