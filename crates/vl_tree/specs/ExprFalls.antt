-- Between functions: The parts of an expression are less deep than the expression. Rule of this project.
use Rattle.std.specs.Prelude.{◌+◌, ◌*◌, ◌≤◌, List, [], ◌∷◌}
use Rattle.std.proofs.Common.{arith}
use denote.Param.Weighed.{most}
use Rattle.fv_text.specs.declared.pos.Pos.{Pos}
use Rattle.vl_tree.specs.declared.expr.ExprKind.{ExprKind}
use Rattle.vl_tree.specs.declared.expr.ExprKind.TheVariants as k
use Rattle.vl_tree.specs.declared.expr.Select.{Select}
use Rattle.vl_tree.specs.declared.expr.Select.TheVariants as s
use Rattle.vl_tree.specs.declared.expr.Expr.TheDeep.{deep-ExprKind, deep-Select, size-Expr, size-Select}
use Rattle.vl_tree.specs.Expr.{Expr, exprs, depth, exprs_depth, selects_depth}
use Rattle.vl_tree.specs.ExprView.{selects, shown}

most_le-exprs_depth : (es : List Expr) → most (λ e. depth e + 1) es ≤ exprs_depth (exprs es) + 1
most_le-exprs_depth [] = omega arith
most_le-exprs_depth (e ∷ es) = omega (arith, most_le-exprs_depth es)

most_le-selects_depth : (ss : List Select) → most deep-Select ss ≤ selects_depth (selects ss) + 1
most_le-selects_depth [] = omega arith
most_le-selects_depth (s.Bit p a ∷ ss) = omega (arith, most_le-selects_depth ss)
most_le-selects_depth (s.Part p a b ∷ ss) = omega (arith, most_le-selects_depth ss)
most_le-selects_depth (s.Indexed p a b ∷ ss) = omega (arith, most_le-selects_depth ss)

pub falls : (p : Pos) (e : ExprKind) → deep-ExprKind e ≤ depth (shown p e)
falls p (k.Number n) = omega arith
falls p (k.Name text ss) = omega (arith, most_le-selects_depth ss)
falls p (k.Paren a) = omega arith
falls p (k.Unary op a) = omega arith
falls p (k.Binary op a b) = omega arith
falls p (k.Conditional c a b) = omega arith
falls p (k.Concat es) = omega (arith, most_le-exprs_depth es)
falls p (k.Repeat n es) = omega (arith, most_le-exprs_depth es)
falls p (k.Cast to a) = omega arith

-- what a recursion over the parts of an expression counts down
pub most_le-size : (es : List Expr) → most (λ e. size-Expr e) es ≤ 3 * (exprs_depth (exprs es) + 1)
most_le-size [] = omega arith
most_le-size (e ∷ es) = omega (arith, most_le-size es)

pub most_le-select_size : (ss : List Select) → most (λ s. size-Select s) ss ≤ 3 *
    (selects_depth (selects ss) + 1) + 2
most_le-select_size [] = omega arith
most_le-select_size (s.Bit p a ∷ ss) = omega (arith, most_le-select_size ss)
most_le-select_size (s.Part p a b ∷ ss) = omega (arith, most_le-select_size ss)
most_le-select_size (s.Indexed p a b ∷ ss) = omega (arith, most_le-select_size ss)

pub ruleset parts_fall = (most_le-size, most_le-select_size)
