-- Meaning: Divisors that are 0. A divisor has the size and the sign of its context, which go down as those of a value
-- do: in nine bits `8'd255 + 8'd1` isn't 0. IEEE 1364-2005, sections 5.1.5, 5.4 and 5.5; that a division by 0 is
-- refused, also in a branch that isn't taken, and that what is refused has no value, so that of `1 / (1 / 0)` the inner
-- division is refused alone, are rules of this project.
use Rattle.std.specs.Prelude.{
  ℕ,
  ◌==◌,
  max,
  List,
  Bool,
  true,
  false,
  ◌&&◌,
  Option,
  Some,
  None,
  is_none,
  if◌then◌else◌,
}
use Rattle.fv_text.specs.declared.pos.Pos.{Pos}
use Rattle.vl_tree.specs.declared.expr.Select.{Select}
use Rattle.vl_tree.specs.declared.expr.Select.TheVariants as s
use Rattle.vl_tree.specs.declared.operator.BinaryOperator.{BinaryOperator}
use Rattle.vl_tree.specs.declared.operator.BinaryOperator.TheVariants as b
use Rattle.vl_tree.specs.Expr.{
  Expr,
  Exprs,
  Selects,
  number,
  name,
  paren,
  unary,
  binary,
  conditional,
  concat,
  repeat,
  cast,
  none,
  more,
  whole,
  bit,
  part,
  indexed,
}
use Rattle.vl_size.specs.declared.context.Context.{Context}
use Rattle.vl_size.specs.declared.decl.Decl.{Decl}
use Rattle.vl_size.specs.declared.way.Way.{Way}
use Rattle.vl_size.specs.declared.way.Way.TheVariants as w
use Rattle.vl_size.specs.Places.{earlier_place}
use Rattle.vl_size.specs.Sign.{sign}
use Rattle.vl_size.specs.Size.{◌>>=◌, size, value, no_names, is_constant, divides}
use Rattle.vl_size.specs.Way.{way, keeps_size}

abbrev pub is_logical : BinaryOperator → Bool
is_logical b.LogicalAnd = true
is_logical b.LogicalOr = true
is_logical op = false

abbrev pub larger : Option ℕ → Option ℕ → Option ℕ
larger m n = m >>= λ j. n >>= λ k. Some (max j k)

-- of what is there
abbrev pub holds_of : Option ℕ → (ℕ → Bool) → Bool
holds_of None f = false
holds_of (Some n) f = f n

abbrev pub place_if : Bool → Pos → Option Pos
place_if true p = Some p
place_if false p = None

abbrev pub if_none : Option Pos → Option ℕ → Option ℕ
if_none None n = n
if_none (Some p) n = None

module _ (ds : List Decl) where
  -- what an expression has by itself
  abbrev pub own_context : Expr → Context
  own_context e = record { size = size ds e; signed = sign ds e }

  -- both operands of a comparison have the larger of their sizes, and are signed where both are
  abbrev pub shared_context : Expr → Expr → Context
  shared_context x y = record { size = larger (size ds x) (size ds y); signed = sign ds x && sign ds y }

  -- the contexts of the operands of `x op y`
  abbrev pub left_context : Way → BinaryOperator → Context → Expr → Expr → Context
  left_context w.Larger op c x y = c
  left_context w.Left op c x y = c
  left_context w.One op c x y = if is_logical op then own_context x else shared_context x y

  abbrev pub right_context : Way → BinaryOperator → Context → Expr → Expr → Context
  right_context w.Larger op c x y = c
  right_context w.Left op c x y = own_context y
  right_context w.One op c x y = if is_logical op then own_context y else shared_context x y

  -- a constant with the value 0 in the context
  abbrev pub is_zero : Context → Expr → Bool
  is_zero c y = is_constant y && holds_of c.size
      (λ w. holds_of (size ds y) (λ n. value ds no_names w c.signed y == 0))

  -- The earliest division by 0 in an expression, which has the size and the sign of a context. A divisor in which a
  -- division is one has no value, and isn't 0.
  abbrev mutual
    pub zero_divisor : Context → Expr → Option Pos
    zero_divisor c (number p n) = None
    zero_divisor c (name p text ss) = selects_zero_divisor ss
    zero_divisor c (paren p x) = zero_divisor c x
    zero_divisor c (unary p op x) = zero_divisor (if keeps_size op then c else own_context x) x
    zero_divisor c (binary p op x y) =
        let first = zero_divisor (left_context (way op) op c x y) x in
        let second = zero_divisor (right_context (way op) op c x y) y in
        earlier_place (place_if (divides op && (is_none second && is_zero c y)) p) (earlier_place first second)
    zero_divisor c (conditional p k x y) =
        earlier_place (zero_divisor (own_context k) k) (earlier_place (zero_divisor c x) (zero_divisor c y))
    zero_divisor c (concat p es) = parts_zero_divisor es
    zero_divisor c (repeat p n es) = earlier_place (zero_divisor (own_context n) n) (parts_zero_divisor es)
    zero_divisor c (cast p to x) = zero_divisor (own_context x) x

    pub parts_zero_divisor : Exprs → Option Pos
    parts_zero_divisor none = None
    parts_zero_divisor (more e es) = earlier_place (zero_divisor (own_context e) e) (parts_zero_divisor es)

    pub selects_zero_divisor : Selects → Option Pos
    selects_zero_divisor whole = None
    selects_zero_divisor (bit p i ss) = earlier_place (zero_divisor (own_context i) i) (selects_zero_divisor ss)
    selects_zero_divisor (part p l r ss) =
        earlier_place (earlier_place (zero_divisor (own_context l) l) (zero_divisor (own_context r) r))
        (selects_zero_divisor ss)
    selects_zero_divisor (indexed p i n ss) =
        earlier_place (earlier_place (zero_divisor (own_context i) i) (zero_divisor (own_context n) n))
        (selects_zero_divisor ss)

  -- by itself
  abbrev pub own_zero_divisor : Expr → Option Pos
  own_zero_divisor e = zero_divisor (own_context e) e

  abbrev pub select_zero_divisor : Select → Option Pos
  select_zero_divisor (s.Bit p i) = own_zero_divisor i.value
  select_zero_divisor (s.Part p l r) = earlier_place (own_zero_divisor l.value) (own_zero_divisor r.value)
  select_zero_divisor (s.Indexed p i n) = earlier_place (own_zero_divisor i.value) (own_zero_divisor n.value)

  -- the size of a whole expression by itself, which has none where a divisor in it is 0
  abbrev pub valid_size : Expr → Option ℕ
  valid_size e = if_none (own_zero_divisor e) (size ds e)
