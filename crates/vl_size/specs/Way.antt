-- Meaning: Where the size and the sign of an operation come from. IEEE 1364-2005, table 5-22 and section 5.5.1.
use Rattle.std.specs.Prelude.{Bool, true, false}
use Rattle.vl_tree.specs.declared.operator.UnaryOperator.{UnaryOperator}
use Rattle.vl_tree.specs.declared.operator.UnaryOperator.TheVariants as u
use Rattle.vl_tree.specs.declared.operator.BinaryOperator.{BinaryOperator}
use Rattle.vl_tree.specs.declared.operator.BinaryOperator.TheVariants as b
use Rattle.vl_size.specs.declared.way.Way.{Way}
use Rattle.vl_size.specs.declared.way.Way.TheVariants as w

-- the larger operand, the left operand, or one bit
abbrev pub way : BinaryOperator → Way
way b.Multiply = w.Larger
way b.Divide = w.Larger
way b.Remainder = w.Larger
way b.Add = w.Larger
way b.Subtract = w.Larger
way b.BitwiseAnd = w.Larger
way b.BitwiseXor = w.Larger
way b.BitwiseXnor = w.Larger
way b.BitwiseXnorCaretFirst = w.Larger
way b.BitwiseOr = w.Larger
way b.ShiftLeft = w.Left
way b.ShiftRight = w.Left
way b.ArithmeticShiftLeft = w.Left
way b.ArithmeticShiftRight = w.Left
way b.Less = w.One
way b.LessEqual = w.One
way b.Greater = w.One
way b.GreaterEqual = w.One
way b.Equal = w.One
way b.NotEqual = w.One
way b.CaseEqual = w.One
way b.CaseNotEqual = w.One
way b.LogicalAnd = w.One
way b.LogicalOr = w.One

-- whether it keeps the operand's size and sign, and gives one unsigned bit otherwise
abbrev pub keeps_size : UnaryOperator → Bool
keeps_size u.Plus = true
keeps_size u.Minus = true
keeps_size u.BitwiseNot = true
keeps_size op = false
