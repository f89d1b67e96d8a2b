-- What operations weigh, by where their sizes come from.
use Rattle.std.specs.Prelude.{◌≡◌, ℕ, ◌+◌, max, List, Bool, true, false, ◌&&◌, if◌then◌else◌}
use Rattle.fv_text.specs.declared.pos.Pos.{Pos}
use Rattle.vl_tree.specs.declared.operator.BinaryOperator.{BinaryOperator}
use Rattle.vl_tree.specs.declared.operator.UnaryOperator.{UnaryOperator}
use Rattle.vl_tree.specs.Expr.{Expr, unary, binary, conditional}
use Rattle.vl_size.specs.declared.decl.Decl.{Decl}
use Rattle.std.proofs.Common.{◌∙◌}
use Rattle.vl_size.specs.declared.way.Way.TheVariants as w
use Rattle.vl_size.specs.Divisors.{is_logical}
use Rattle.vl_size.specs.Size.{is_constant}
use Rattle.vl_size.specs.Way.{way, keeps_size}
use Rattle.vl_flow_spec.specs.Weight.{operation_weight, unary_weight, own_size}
use Rattle.vl_flow_spec.specs.Weight.{operation_size, left_size, right_size, weight}

module _ (ds : List Decl) (p : Pos) where
  pub by_larger : (op : BinaryOperator) (x y : Expr) (n : ℕ) → way op ≡ w.Larger
      → (is_constant x && is_constant y) ≡ false
      → weight ds n (binary p op x y) ≡ operation_weight op n + (weight ds n x + weight ds n y)
  by_larger op x y n e f =
      (λ i. if f i then 0 else operation_weight op (operation_size ds (e i) n x y)
      + (weight ds (left_size ds (e i) op n x y) x + weight ds (right_size ds (e i) op n x y) y))

  pub by_left : (op : BinaryOperator) (x y : Expr) (n : ℕ) → way op ≡ w.Left
      → (is_constant x && is_constant y) ≡ false
      → weight ds n (binary p op x y) ≡ operation_weight op n + (weight ds n x + weight ds (own_size ds y) y)
  by_left op x y n e f =
      (λ i. if f i then 0 else operation_weight op (operation_size ds (e i) n x y)
      + (weight ds (left_size ds (e i) op n x y) x + weight ds (right_size ds (e i) op n x y) y))

  -- one bit, of operands that have their own sizes
  pub by_logical : (op : BinaryOperator) (x y : Expr) (n : ℕ) → way op ≡ w.One → is_logical op ≡ true
      → (is_constant x && is_constant y) ≡ false
      → weight ds n (binary p op x y)
      ≡ operation_weight op (max (own_size ds x) (own_size ds y))
      + (weight ds (own_size ds x) x + weight ds (own_size ds y) y)
  by_logical op x y n e g f =
      (λ i. if f i then 0 else operation_weight op (operation_size ds (e i) n x y)
      + (weight ds (left_size ds (e i) op n x y) x + weight ds (right_size ds (e i) op n x y) y))
      ∙ (λ i. operation_weight op (max (own_size ds x) (own_size ds y))
      + (weight ds (if g i then own_size ds x else max (own_size ds x) (own_size ds y)) x
      + weight ds (if g i then own_size ds y else max (own_size ds x) (own_size ds y)) y))

  -- one bit, of operands that have the larger size
  pub by_compared : (op : BinaryOperator) (x y : Expr) (n : ℕ) → way op ≡ w.One → is_logical op ≡ false
      → (is_constant x && is_constant y) ≡ false
      → weight ds n (binary p op x y)
      ≡ operation_weight op (max (own_size ds x) (own_size ds y))
      + (weight ds (max (own_size ds x) (own_size ds y)) x + weight ds (max (own_size ds x) (own_size ds y)) y)
  by_compared op x y n e g f =
      (λ i. if f i then 0 else operation_weight op (operation_size ds (e i) n x y)
      + (weight ds (left_size ds (e i) op n x y) x + weight ds (right_size ds (e i) op n x y) y))
      ∙ (λ i. operation_weight op (max (own_size ds x) (own_size ds y))
      + (weight ds (if g i then own_size ds x else max (own_size ds x) (own_size ds y)) x
      + weight ds (if g i then own_size ds y else max (own_size ds x) (own_size ds y)) y))

  pub of_constants : (op : BinaryOperator) (x y : Expr) (n : ℕ) → (is_constant x && is_constant y) ≡ true
      → weight ds n (binary p op x y) ≡ 0
  of_constants op x y n f =
      (λ i. if f i then 0 else operation_weight op (operation_size ds (way op) n x y)
      + (weight ds (left_size ds (way op) op n x y) x + weight ds (right_size ds (way op) op n x y) y))

  pub by_unary : (op : UnaryOperator) (x : Expr) (n : ℕ) (keeps : Bool) → keeps_size op ≡ keeps
      → is_constant x ≡ false
      → weight ds n (unary p op x)
      ≡ unary_weight op (if keeps then n else own_size ds x) + weight ds (if keeps then n else own_size ds x) x
  by_unary op x n keeps e f =
      (λ i. if f i then 0 else unary_weight op (if e i then n else own_size ds x)
      + weight ds (if e i then n else own_size ds x) x)

  pub of_constant : (op : UnaryOperator) (x : Expr) (n : ℕ) → is_constant x ≡ true → weight ds n (unary p op x) ≡ 0
  of_constant op x n f =
      (λ i. if f i then 0 else unary_weight op (if keeps_size op then n else own_size ds x)
      + weight ds (if keeps_size op then n else own_size ds x) x)

  pub by_choice : (c x y : Expr) (n : ℕ) → (is_constant c && (is_constant x && is_constant y)) ≡ false
      → weight ds n (conditional p c x y) ≡ n + (weight ds (own_size ds c) c + weight ds n x + weight ds n y)
  by_choice c x y n f =
      (λ i. if f i then 0 else n + (weight ds (own_size ds c) c + weight ds n x + weight ds n y))

  pub of_constant_choice : (c x y : Expr) (n : ℕ) → (is_constant c && (is_constant x && is_constant y)) ≡ true
      → weight ds n (conditional p c x y) ≡ 0
  of_constant_choice c x y n f =
      (λ i. if f i then 0 else n + (weight ds (own_size ds c) c + weight ds n x + weight ds n y))
