-- Between functions: Where an expression that has to be constant isn't, part by part: what the functions that go
-- through it promise one another. Rule of this project.
use Rattle.std.specs.Prelude.{List, Bool, true, false, ◌||◌}
use Rattle.vl_tree.specs.declared.expr.Select.{Select}
use Rattle.vl_tree.specs.declared.expr.Select.TheVariants as s
use Rattle.vl_tree.specs.Expr.{
  Expr,
  Exprs,
  Selects,
  number,
  name,
  paren,
  unary,
  binary,
  conditional,
  concat,
  repeat,
  cast,
  none,
  more,
  whole,
  bit,
  part,
  indexed,
}
use Rattle.vl_size.specs.Size.{divides}
use Rattle.vl_elab_spec.specs.Expressions.{is_constant_name}
use Rattle.vl_elab_spec.specs.Meanings.{Meaning, object, shapeless, later, Names, meaning_in}

-- a net or a variable does, where a constant is asked for
abbrev pub name_varies : Bool → Meaning → Bool
name_varies fixed later = true
name_varies fixed (object d role scalar) = fixed
name_varies fixed shapeless = fixed
name_varies fixed m = false

module _ (ns : List Names) where
  abbrev mutual
    pub varies : Bool → Expr → Bool
    varies fixed (number p n) = false
    varies fixed (name p text ss) =
        selects_vary (fixed || is_constant_name ns (meaning_in ns text)) ss || name_varies fixed (meaning_in ns text)
    varies fixed (paren p x) = varies fixed x
    varies fixed (unary p op x) = varies fixed x
    varies fixed (binary p op x y) = varies (fixed || divides op) x || varies (fixed || divides op) y
    varies fixed (conditional p c x y) = (varies fixed c || varies fixed x) || varies fixed y
    varies fixed (concat p es) = any_varies fixed es
    varies fixed (repeat p n es) = varies true n || any_varies fixed es
    varies fixed (cast p to x) = varies fixed x

    pub any_varies : Bool → Exprs → Bool
    any_varies fixed none = false
    any_varies fixed (more e es) = varies fixed e || any_varies fixed es

    pub selects_vary : Bool → Selects → Bool
    selects_vary fixed whole = false
    selects_vary fixed (bit q i ss) = varies fixed i || selects_vary fixed ss
    selects_vary fixed (part q l r ss) = (varies true l || varies true r) || selects_vary fixed ss
    selects_vary fixed (indexed q i n ss) = (varies fixed i || varies true n) || selects_vary fixed ss

  -- of one select
  abbrev pub select_varies : Bool → Select → Bool
  select_varies fixed (s.Bit q i) = varies fixed i.value
  select_varies fixed (s.Part q l r) = varies true l.value || varies true r.value
  select_varies fixed (s.Indexed q i n) = varies fixed i.value || varies true n.value
