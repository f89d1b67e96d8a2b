-- Meaning: When an expression is signed. IEEE 1364-2005, section 5.5.1.
use Rattle.std.specs.Prelude.{ℤ, List, Bool, true, false, ◌&&◌, Option, Some, None}
use Rattle.vl_size.specs.declared.way.Way.{Way}
use Rattle.vl_size.specs.declared.way.Way.TheVariants as w
use Rattle.vl_size.specs.Way.{way, keeps_size}
use Rattle.vl_tree.specs.declared.operator.Cast.{Cast}
use Rattle.vl_tree.specs.declared.operator.Cast.TheVariants as c
use Rattle.vl_tree.specs.Expr.{Expr, Selects, number, name, paren, unary, binary, conditional, concat, repeat, cast}
use Rattle.vl_tree.specs.Expr.{whole, bit}
use Rattle.vl_size.specs.declared.decl.Decl.{Decl}
use Rattle.vl_size.specs.Table.{declared_as}

-- all context operands are signed; a shift has the sign of its left operand
abbrev pub sign_by : Way → Bool → Bool → Bool
sign_by w.Larger s t = s && t
sign_by w.Left s t = s
sign_by w.One s t = false

-- a vector as a whole has its declared sign, and a select of it none
abbrev pub vector_sign : Bool → Selects → Bool
vector_sign s whole = s
vector_sign s ss = false

-- of a memory, the first select takes the word
abbrev pub word_sign : Bool → Selects → Bool
word_sign s (bit p i ss) = vector_sign s ss
word_sign s ss = false

abbrev pub name_sign : Option (ℤ × ℤ) → Bool → Selects → Bool
name_sign None s ss = vector_sign s ss
name_sign (Some bounds) s ss = word_sign s ss

abbrev pub declared_sign : Option Decl → Selects → Bool
declared_sign None ss = false
declared_sign (Some d) ss = name_sign d.words d.signed ss

abbrev pub cast_sign : Cast → Bool
cast_sign c.Signed = true
cast_sign c.Unsigned = false

module _ (ds : List Decl) where
  abbrev pub sign : Expr → Bool
  sign (number p n) = n.signed
  sign (name p text ss) = declared_sign (declared_as ds text) ss
  sign (paren p x) = sign x
  sign (unary p op x) = keeps_size op && sign x
  sign (binary p op x y) = sign_by (way op) (sign x) (sign y)
  sign (conditional p c x y) = sign x && sign y
  sign (concat p es) = false
  sign (repeat p n es) = false
  sign (cast p to x) = cast_sign to
