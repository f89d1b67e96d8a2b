-- Between functions: What an expression comes to while a design is weighed. Rule of this project.
use Rattle.std.specs.Prelude.{◌≡◌, ℕ, List, Bool, Option, Some, max}
use Rattle.vl_tree.specs.declared.operator.BinaryOperator.{BinaryOperator}
use Rattle.vl_tree.specs.declared.operator.UnaryOperator.{UnaryOperator}
use Rattle.vl_tree.specs.Expr.{Expr}
use Rattle.vl_size.specs.declared.decl.Decl.{Decl}
use Rattle.vl_size.specs.Size.{◌>>=◌, is_constant, operation_size, size, unary_size}
use Rattle.vl_mean.specs.ConstantFaults.{capped}
use Rattle.vl_flow_spec.specs.Weight.{weight}
use Rattle.vl_flow_weight.specs.declared.weighed.Weighed.{Weighed}
use Rattle.vl_flow_weight.specs.Gates.{gates_at}

-- its size by itself, whether it has no names, and its gates
pub record IsWeightOf (ds : List Decl) (e : Expr) (x : Weighed) : Type 0 where
  pub size : x.size ≡ size ds e
  pub constant : x.is_constant ≡ is_constant e
  pub gates : (n : ℕ) → gates_at x.gates n ≡ capped (weight ds n e)

-- ---- sizes of operations from those of their operands

abbrev pub unary_size_of : UnaryOperator → Option ℕ → Option ℕ
unary_size_of op x = x >>= λ m. Some (unary_size op m)

abbrev pub binary_size_of : BinaryOperator → Option ℕ → Option ℕ → Bool → Option ℕ
binary_size_of op x y constant = x >>= λ m. y >>= λ n. operation_size op m n constant

-- of two alternatives, where the condition has a size
abbrev pub larger_size_of : Option ℕ → Option ℕ → Option ℕ → Option ℕ
larger_size_of c x y = c >>= λ k. x >>= λ m. y >>= λ n. Some (max m n)
