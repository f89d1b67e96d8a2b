-- Between functions: What a contract sees of an expression of the program: the plain tree, without its pointers. Rule
-- of this project.
use Rattle.std.specs.Prelude.{List, [], ◌∷◌}
use Rattle.fv_text.specs.declared.pos.Pos.{Pos}
use Rattle.vl_tree.specs.declared.expr.ExprKind.{ExprKind}
use Rattle.vl_tree.specs.declared.expr.ExprKind.TheVariants as k
use Rattle.vl_tree.specs.declared.expr.Select.{Select}
use Rattle.vl_tree.specs.declared.expr.Select.TheVariants as s
use Rattle.vl_tree.specs.Expr.{
  Expr,
  Selects,
  number,
  name,
  paren,
  unary,
  binary,
  conditional,
  concat,
  repeat,
  cast,
  whole,
  bit,
  part,
  indexed,
  exprs,
}

abbrev pub with_select : Select → Selects → Selects
with_select (s.Bit p a) rest = bit p a.value rest
with_select (s.Part p a b) rest = part p a.value b.value rest
with_select (s.Indexed p a b) rest = indexed p a.value b.value rest

abbrev pub selects : List Select → Selects
selects [] = whole
selects (s ∷ ss) = with_select s (selects ss)

abbrev pub shown : Pos → ExprKind → Expr
shown p (k.Number n) = number p n
shown p (k.Name text ss) = name p text (selects ss)
shown p (k.Paren a) = paren p a.value
shown p (k.Unary op a) = unary p op a.value
shown p (k.Binary op a b) = binary p op a.value b.value
shown p (k.Conditional c a b) = conditional p c.value a.value b.value
shown p (k.Concat es) = concat p (exprs es)
shown p (k.Repeat n es) = repeat p n.value (exprs es)
shown p (k.Cast to a) = cast p to a.value
