-- Sizes of operations of one bit.
use Rattle.std.specs.Prelude.{◌≡◌, refl, ℕ, max, Bool, ◌&&◌, List, Option, Some, None}
use Rattle.fv_text.specs.declared.pos.Pos.{Pos}
use Rattle.vl_tree.specs.declared.operator.BinaryOperator.{BinaryOperator}
use Rattle.vl_tree.specs.declared.operator.BinaryOperator.TheVariants as b
use Rattle.vl_tree.specs.Expr.{Expr, binary}
use Rattle.vl_size.specs.declared.decl.Decl.{Decl}
use Rattle.vl_size.specs.declared.way.Way.TheVariants as w
use Rattle.vl_size.specs.Way.{way}
use Rattle.vl_size.specs.Sign.{sign}
use Rattle.vl_size.specs.Size.{◌>>=◌, both, size, value, no_names, is_constant, operation_size}

one_bit : (op : BinaryOperator) (m n : ℕ) (c : Bool) → way op ≡ w.One → Some 1 ≡ operation_size op m n c
one_bit b.Multiply m n c h = cc
one_bit b.Divide m n c h = cc
one_bit b.Remainder m n c h = cc
one_bit b.Add m n c h = cc
one_bit b.Subtract m n c h = cc
one_bit b.BitwiseAnd m n c h = cc
one_bit b.BitwiseXor m n c h = cc
one_bit b.BitwiseXnor m n c h = cc
one_bit b.BitwiseXnorCaretFirst m n c h = cc
one_bit b.BitwiseOr m n c h = cc
one_bit b.ShiftLeft m n c h = cc
one_bit b.ShiftRight m n c h = cc
one_bit b.ArithmeticShiftLeft m n c h = cc
one_bit b.ArithmeticShiftRight m n c h = cc
one_bit b.Less m n c h = refl
one_bit b.LessEqual m n c h = refl
one_bit b.Greater m n c h = refl
one_bit b.GreaterEqual m n c h = refl
one_bit b.Equal m n c h = refl
one_bit b.NotEqual m n c h = refl
one_bit b.CaseEqual m n c h = refl
one_bit b.CaseNotEqual m n c h = refl
one_bit b.LogicalAnd m n c h = refl
one_bit b.LogicalOr m n c h = refl

joined_bits : (o p : Option ℕ) (f : ℕ → ℕ → Option ℕ) → ((m n : ℕ) → Some 1 ≡ f m n)
    → both o p ≡ (o >>= λ m. p >>= λ n. f m n)
joined_bits None p f h = refl
joined_bits (Some m) None f h = refl
joined_bits (Some m) (Some n) f h = h m n

pub one_size : (ds : List Decl) (p : Pos) (op : BinaryOperator) (x y : Expr) → way op ≡ w.One
    → both (size ds x) (size ds y) ≡ size ds (binary p op x y)
one_size ds p op x y h =
    let constants = is_constant x && is_constant y in
    joined_bits (size ds x) (size ds y) (λ m n. operation_size op m n constants) (λ m n. one_bit op m n constants h)
