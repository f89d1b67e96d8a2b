-- Meaning: Well formed expressions: names are names, numbers have no wild and no unknown bits, and each operand stands
-- at its level of the grammar. IEEE 1364-2005, section 5.1.2; that numbers are known is a rule of this project.
use Rattle.std.specs.Prelude.{◌≡◌, ℕ, ◌<◌, ◌≤◌, true, List, Option, Some, None}
use Rattle.fv_text.specs.Name.{is_name}
use Rattle.fv_text.specs.declared.number.Number.{Number}
use Rattle.vl_tree.specs.declared.operator.BinaryOperator.{BinaryOperator}
use Rattle.vl_tree.specs.declared.operator.BinaryOperator.TheVariants as b
use Rattle.vl_tree.specs.Expr.{
  Expr,
  Exprs,
  Selects,
  number,
  name,
  paren,
  unary,
  binary,
  conditional,
  concat,
  repeat,
  cast,
  none,
  more,
  whole,
  bit,
  part,
  indexed,
}

abbrev pub IsName : List ℕ → Type 0
IsName text = is_name text ≡ true

-- how strongly an operator binds its operands: table 5-4
abbrev pub binds : BinaryOperator → ℕ
binds b.LogicalOr = 1
binds b.LogicalAnd = 2
binds b.BitwiseOr = 3
binds b.BitwiseXor = 4
binds b.BitwiseXnor = 4
binds b.BitwiseXnorCaretFirst = 4
binds b.BitwiseAnd = 5
binds b.Equal = 6
binds b.NotEqual = 6
binds b.CaseEqual = 6
binds b.CaseNotEqual = 6
binds b.Less = 7
binds b.LessEqual = 7
binds b.Greater = 7
binds b.GreaterEqual = 7
binds b.ShiftLeft = 8
binds b.ShiftRight = 8
binds b.ArithmeticShiftLeft = 8
binds b.ArithmeticShiftRight = 8
binds b.Add = 9
binds b.Subtract = 9
binds b.Multiply = 10
binds b.Divide = 10
binds b.Remainder = 10

-- the level of the grammar at which an expression stands: 0 a conditional, 11 a unary operator, 12 a primary
abbrev pub level : Expr → ℕ
level (conditional p c x y) = 0
level (binary p op x y) = binds op
level (unary p op x) = 11
level e = 12

-- no wild and no unknown bits
abbrev pub IsKnown : Number → Type 0
IsKnown n = (n.wild ≡ 0) × (n.unknown ≡ 0)

abbrev pub IsSome : Exprs → Type 0
IsSome none = ⊥
IsSome (more e es) = Unit {0}

abbrev mutual
  pub IsWellFormed : Expr → Type 0
  IsWellFormed (number p n) = IsKnown n
  IsWellFormed (name p text ss) = IsName text × AreSelects ss
  IsWellFormed (paren p x) = IsWellFormed x
  IsWellFormed (unary p op x) = (11 ≤ level x) × IsWellFormed x
  IsWellFormed (binary p op x y) = (binds op ≤ level x) × (binds op < level y) × IsWellFormed x × IsWellFormed y
  IsWellFormed (conditional p c x y) = (1 ≤ level c) × IsWellFormed c × IsWellFormed x × IsWellFormed y
  IsWellFormed (concat p es) = IsSome es × AreWellFormed es
  IsWellFormed (repeat p n es) = IsWellFormed n × IsSome es × AreWellFormed es
  IsWellFormed (cast p to x) = IsWellFormed x

  pub AreWellFormed : Exprs → Type 0
  AreWellFormed none = Unit {0}
  AreWellFormed (more e es) = IsWellFormed e × AreWellFormed es

  pub AreSelects : Selects → Type 0
  AreSelects whole = Unit {0}
  AreSelects (bit p x ss) = IsWellFormed x × AreSelects ss
  AreSelects (part p x y ss) = IsWellFormed x × IsWellFormed y × AreSelects ss
  AreSelects (indexed p x y ss) = IsWellFormed x × IsWellFormed y × AreSelects ss

-- where there is one
abbrev pub IsValue : Option Expr → Type 0
IsValue None = Unit {0}
IsValue (Some e) = IsWellFormed e
