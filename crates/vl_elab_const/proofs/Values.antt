-- Values of parameters are those of the definitions, where constants have the same numbers.
use Rattle.std.specs.Prelude.{◌≡◌, refl, ℕ, List, [], Bool, max, Option, Some, None}
use Rattle.std.proofs.Common.{ap, sym, ◌∙◌}
use Rattle.vl_tree.specs.declared.declaration.Parameter.{Parameter}
use Rattle.vl_tree.specs.declared.declaration.Range.{Range}
use Rattle.vl_tree.specs.Expr.{Expr}
use Rattle.vl_size.specs.Size.{Operand, operand_of, no_names, index_of}
use Rattle.vl_size.specs.Table.{span}
use Rattle.vl_mean.specs.Constants.{constant_operand, cut_to, width_in_range}
use Rattle.vl_mean.specs.Declarations.{Overrides, of_range, parameter_value}
use Rattle.vl_mean.specs.Scopes.{Scope, constant_in}
use Rattle.vl_elab_spec.specs.Expressions.{known}
use Rattle.vl_elab_spec.specs.Meanings.{Names}
use Rattle.vl_elab_const.specs.declared.given.Value.{Value}
use Rattle.vl_elab_const.specs.Given.{IsGiven, operand_or}
use Rattle.vl_elab_const.specs.Numbers.{HaveNumbers, number_in_range, parameter_number, given_or}

module _ (ns : List Names) (ss : List Scope) (h : HaveNumbers ns ss) where
  same_number : (signed : Bool) (x : Operand) (r : Option Range)
      → number_in_range ns signed x r ≡ of_range ss signed x r
  same_number signed x None = refl
  same_number signed x (Some r) =
      λ i. let left = index_of (constant_operand (λ text. h text i) r.left) in
      let right = index_of (constant_operand (λ text. h text i) r.right) in
      let n = width_in_range (span left right) in cut_to n signed (x.at (max n x.size) x.sign)

  same_operand : (e : Expr) → operand_of [] no_names (known ns e) ≡ constant_operand (constant_in ss) e
  same_operand e = λ i. constant_operand (λ text. h text i) e

  -- the value of a parameter
  pub number_is : (given : List ℕ → Option Value) (os : Overrides) → IsGiven given os → (x : Parameter)
      → parameter_number ns given x ≡ parameter_value os ss x
  number_is given os g x =
      let own = constant_operand (constant_in ss) x.value in
      same_number x.shape.signed (operand_of [] no_names (given_or (given x.name) (known ns x.value)))
      x.shape.range
      ∙ ap (λ y. of_range ss x.shape.signed y x.shape.range) (by (given x.name) ∙ sym (g.value x.name own))
    where
      by : (o : Option Value) → operand_of [] no_names (given_or o (known ns x.value))
          ≡ operand_or o (constant_operand (constant_in ss) x.value)
      by None = same_operand x.value
      by (Some v) = refl
