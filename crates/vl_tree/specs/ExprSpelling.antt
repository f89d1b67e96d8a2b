-- Meaning: What expressions spell, alternative by alternative. IEEE 1364-2005, sections 5.1 and A.8, cut to this
-- project's subset.
use Rattle.std.specs.Prelude.{ℕ, List, Option, Some, None, codes}
use Rattle.fv_text.specs.declared.kind.Kind.TheVariants as k
use Rattle.fv_text.specs.declared.symbol.Symbol.{Symbol}
use Rattle.fv_text.specs.declared.symbol.Symbol.TheVariants as s
use Rattle.vl_tree.specs.declared.operator.UnaryOperator.{UnaryOperator}
use Rattle.vl_tree.specs.declared.operator.UnaryOperator.TheVariants as u
use Rattle.vl_tree.specs.declared.operator.BinaryOperator.{BinaryOperator}
use Rattle.vl_tree.specs.declared.operator.BinaryOperator.TheVariants as b
use Rattle.vl_tree.specs.declared.operator.Cast.{Cast}
use Rattle.vl_tree.specs.declared.operator.Cast.TheVariants as c
use Rattle.vl_tree.specs.Expr.{
  Expr,
  Exprs,
  Selects,
  number,
  name,
  paren,
  unary,
  binary,
  conditional,
  concat,
  repeat,
  cast,
  none,
  more,
  whole,
  bit,
  part,
  indexed,
}
use Rattle.vl_tree.specs.Phrase.{
  Phrase,
  nothing,
  token,
  operator,
  ◌▸◌,
  at,
  level,
  sign,
  a_name,
  parens,
  square,
  braces,
}

abbrev pub unary_sign : UnaryOperator → Symbol
unary_sign u.Plus = s.Plus
unary_sign u.Minus = s.Minus
unary_sign u.LogicalNot = s.Bang
unary_sign u.BitwiseNot = s.Tilde
unary_sign u.ReductionAnd = s.And
unary_sign u.ReductionNand = s.TildeAnd
unary_sign u.ReductionOr = s.Or
unary_sign u.ReductionNor = s.TildeOr
unary_sign u.ReductionXor = s.Caret
unary_sign u.ReductionXnor = s.TildeCaret
unary_sign u.ReductionXnorCaretFirst = s.CaretTilde

abbrev pub binary_sign : BinaryOperator → Symbol
binary_sign b.Multiply = s.Star
binary_sign b.Divide = s.Slash
binary_sign b.Remainder = s.Percent
binary_sign b.Add = s.Plus
binary_sign b.Subtract = s.Minus
binary_sign b.ShiftLeft = s.LessLess
binary_sign b.ShiftRight = s.GreaterGreater
binary_sign b.ArithmeticShiftLeft = s.LessLessLess
binary_sign b.ArithmeticShiftRight = s.GreaterGreaterGreater
binary_sign b.Less = s.Less
binary_sign b.LessEqual = s.LessEqual
binary_sign b.Greater = s.Greater
binary_sign b.GreaterEqual = s.GreaterEqual
binary_sign b.Equal = s.EqualEqual
binary_sign b.NotEqual = s.BangEqual
binary_sign b.CaseEqual = s.EqualEqualEqual
binary_sign b.CaseNotEqual = s.BangEqualEqual
binary_sign b.BitwiseAnd = s.And
binary_sign b.BitwiseXor = s.Caret
binary_sign b.BitwiseXnor = s.TildeCaret
binary_sign b.BitwiseXnorCaretFirst = s.CaretTilde
binary_sign b.BitwiseOr = s.Or
binary_sign b.LogicalAnd = s.AndAnd
binary_sign b.LogicalOr = s.OrOr

-- the system function's name, behind its `$`
abbrev pub cast_name : Cast → List ℕ
cast_name c.Signed = codes "signed"
cast_name c.Unsigned = codes "unsigned"

abbrev mutual
  pub spell : Expr → Phrase
  spell (number p n) = at p (token (k.Number n))
  spell (name p text ss) = at p (a_name text ▸ spell_selects ss)
  spell (paren p a) = at p (parens (spell a))
  spell (unary p op a) = at p (operator (k.Symbol (unary_sign op)) ▸ spell a)
  spell (binary p op a b) = at p (spell a ▸ operator (k.Symbol (binary_sign op)) ▸ spell b)
  spell (conditional p c a b) =
      at p (spell c ▸ operator (k.Symbol s.Question) ▸ spell a ▸ sign s.Colon ▸ spell b)
  spell (concat p es) = at p (braces (spell_parts es))
  spell (repeat p n es) = at p (braces (spell n ▸ braces (spell_parts es)))
  spell (cast p to a) = at p (token (k.System (cast_name to)) ▸ parens (spell a))

  -- with commas between them
  pub spell_parts : Exprs → Phrase
  spell_parts none = nothing
  spell_parts (more e es) = level (spell e) ▸ spell_more es

  pub spell_more : Exprs → Phrase
  spell_more none = nothing
  spell_more (more e es) = sign s.Comma ▸ level (spell e) ▸ spell_more es

  pub spell_selects : Selects → Phrase
  spell_selects whole = nothing
  spell_selects (bit p a ss) = at p (square (spell a)) ▸ spell_selects ss
  spell_selects (part p a b ss) = at p (square (level (spell a) ▸ sign s.Colon ▸ spell b)) ▸ spell_selects ss
  spell_selects (indexed p a b ss) =
      at p (square (level (spell a) ▸ sign s.PlusColon ▸ spell b)) ▸ spell_selects ss

-- `= expr`, or nothing
abbrev pub spell_value : Option Expr → Phrase
spell_value None = nothing
spell_value (Some e) = sign s.Equal ▸ level (spell e)
