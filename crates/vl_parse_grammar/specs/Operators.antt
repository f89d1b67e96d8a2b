-- Meaning: Which operators and casts tokens stand for. IEEE 1364-2005, tables 5-1 and 5-4, and section 5.5.
use Rattle.std.specs.Prelude.{ℕ, Bool, List, Option, Some, None, bytes_eq, codes}
use Rattle.fv_text.specs.declared.symbol.Symbol.{Symbol}
use Rattle.fv_text.specs.declared.symbol.Symbol.TheVariants as s
use Rattle.vl_tree.specs.declared.operator.UnaryOperator.{UnaryOperator}
use Rattle.vl_tree.specs.declared.operator.UnaryOperator.TheVariants as u
use Rattle.vl_tree.specs.declared.operator.BinaryOperator.{BinaryOperator}
use Rattle.vl_tree.specs.declared.operator.BinaryOperator.TheVariants as b
use Rattle.vl_tree.specs.declared.operator.Cast.{Cast}
use Rattle.vl_tree.specs.declared.operator.Cast.TheVariants as c

abbrev pub unary_of : Symbol → Option UnaryOperator
unary_of s.Plus = Some u.Plus
unary_of s.Minus = Some u.Minus
unary_of s.Bang = Some u.LogicalNot
unary_of s.Tilde = Some u.BitwiseNot
unary_of s.And = Some u.ReductionAnd
unary_of s.TildeAnd = Some u.ReductionNand
unary_of s.Or = Some u.ReductionOr
unary_of s.TildeOr = Some u.ReductionNor
unary_of s.Caret = Some u.ReductionXor
unary_of s.TildeCaret = Some u.ReductionXnor
unary_of s.CaretTilde = Some u.ReductionXnorCaretFirst
unary_of sign = None

abbrev pub binary_of : Symbol → Option BinaryOperator
binary_of s.Star = Some b.Multiply
binary_of s.Slash = Some b.Divide
binary_of s.Percent = Some b.Remainder
binary_of s.Plus = Some b.Add
binary_of s.Minus = Some b.Subtract
binary_of s.LessLess = Some b.ShiftLeft
binary_of s.GreaterGreater = Some b.ShiftRight
binary_of s.LessLessLess = Some b.ArithmeticShiftLeft
binary_of s.GreaterGreaterGreater = Some b.ArithmeticShiftRight
binary_of s.Less = Some b.Less
binary_of s.LessEqual = Some b.LessEqual
binary_of s.Greater = Some b.Greater
binary_of s.GreaterEqual = Some b.GreaterEqual
binary_of s.EqualEqual = Some b.Equal
binary_of s.BangEqual = Some b.NotEqual
binary_of s.EqualEqualEqual = Some b.CaseEqual
binary_of s.BangEqualEqual = Some b.CaseNotEqual
binary_of s.And = Some b.BitwiseAnd
binary_of s.Caret = Some b.BitwiseXor
binary_of s.TildeCaret = Some b.BitwiseXnor
binary_of s.CaretTilde = Some b.BitwiseXnorCaretFirst
binary_of s.Or = Some b.BitwiseOr
binary_of s.AndAnd = Some b.LogicalAnd
binary_of s.OrOr = Some b.LogicalOr
binary_of sign = None

abbrev pub cast_unless : Option Cast → Bool → Cast → Option Cast
cast_unless other Bool.true cast = Some cast
cast_unless other Bool.false cast = other

-- the cast with this name, written without its `$`
abbrev pub cast_of : List ℕ → Option Cast
cast_of text =
    cast_unless (cast_unless None (bytes_eq text (codes "unsigned")) c.Unsigned)
    (bytes_eq text (codes "signed")) c.Signed
