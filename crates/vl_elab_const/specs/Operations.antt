-- Between functions: Operations on two numbers, as their numbers come from those of the operands. Rule of this
-- project.
use Rattle.std.specs.Prelude.{◌≡◌}
use Rattle.fv_text.specs.declared.number.Number.{Number}
use Rattle.fv_text.specs.declared.pos.Pos.{Pos}
use Rattle.fv_bits.specs.Bits.{extended}
use Rattle.vl_tree.specs.Expr.{Expr, number}
use Rattle.vl_size.specs.Size.{Operand}

-- a number as an operand
abbrev pub number_operand : Number → Operand
number_operand n = record { size = n.width; sign = n.signed; at = λ w s. extended n.width w s n.value }

-- the expression is this number
abbrev pub IsNumber : Number → Expr → Type 0
IsNumber n e = (p : Pos) × (e ≡ number p n)
