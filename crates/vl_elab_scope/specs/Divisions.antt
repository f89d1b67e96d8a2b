-- Between functions: Whether a quotient or a remainder stands in an expression. Rule of this project.
use Rattle.std.specs.Prelude.{Bool, false, ◌||◌}
use Rattle.vl_tree.specs.declared.expr.Select.{Select}
use Rattle.vl_tree.specs.declared.expr.Select.TheVariants as s
use Rattle.vl_tree.specs.Expr.{
  Expr,
  Exprs,
  Selects,
  number,
  name,
  paren,
  unary,
  binary,
  conditional,
  concat,
  repeat,
  cast,
  none,
  more,
  whole,
  bit,
  part,
  indexed,
}
use Rattle.vl_size.specs.Size.{divides}

abbrev mutual
  pub has_division : Expr → Bool
  has_division (number p n) = false
  has_division (name p text ss) = selects_have_division ss
  has_division (paren p x) = has_division x
  has_division (unary p op x) = has_division x
  has_division (binary p op x y) = divides op || (has_division x || has_division y)
  has_division (conditional p c x y) = has_division c || (has_division x || has_division y)
  has_division (concat p es) = parts_have_division es
  has_division (repeat p n es) = has_division n || parts_have_division es
  has_division (cast p to x) = has_division x

  pub parts_have_division : Exprs → Bool
  parts_have_division none = false
  parts_have_division (more e es) = has_division e || parts_have_division es

  pub selects_have_division : Selects → Bool
  selects_have_division whole = false
  selects_have_division (bit p i ss) = has_division i || selects_have_division ss
  selects_have_division (part p l r ss) = (has_division l || has_division r) || selects_have_division ss
  selects_have_division (indexed p i n ss) = (has_division i || has_division n) || selects_have_division ss

-- of one select
abbrev pub select_has_division : Select → Bool
select_has_division (s.Bit p i) = has_division i.value
select_has_division (s.Part p l r) = has_division l.value || has_division r.value
select_has_division (s.Indexed p i n) = has_division i.value || has_division n.value
