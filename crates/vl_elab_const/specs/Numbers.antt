-- Between functions: The numbers that constants have by the definitions, whether their declarations are refused or
-- not, as they are kept while a design is judged. IEEE 1364-2005, sections 3.11 and 12.4.1.
use Rattle.std.specs.Prelude.{◌≡◌, ℕ, List, [], Bool, ◌||◌, Option, Some, None, max}
use Rattle.vl_tree.specs.declared.declaration.Parameter.{Parameter}
use Rattle.vl_tree.specs.declared.declaration.Range.{Range}
use Rattle.vl_tree.specs.Expr.{Expr}
use Rattle.vl_size.specs.Size.{Operand, operand_of, no_names, is_true, own}
use Rattle.vl_mean.specs.declared.const_number.Const.{Const}
use Rattle.vl_mean.specs.Constants.{constant_operand, cut_to, width_in_range}
use Rattle.vl_mean.specs.Scopes.{Scope, constant_in}
use Rattle.vl_mean.specs.Walk.{genvar_value}
use Rattle.vl_elab_spec.specs.Expressions.{known}
use Rattle.vl_elab_spec.specs.Meanings.{Names, constants, declared_width}
use Rattle.vl_elab_const.specs.declared.given.Value.{Value}

-- the names that mean a constant are those of the scopes, with their numbers
abbrev pub HaveNumbers : List Names → List Scope → Type 0
HaveNumbers ns ss = (text : List ℕ) → constants ns text ≡ constant_in ss text

-- the expression isn't 0
abbrev pub holds : List Names → Expr → Bool
holds ns e = is_true (constant_operand (constants ns) e)

-- the value that a genvar has once the expression is assigned to it
abbrev pub genvar_number : List Names → Expr → Const
genvar_number ns e = genvar_value (constant_operand (constants ns) e)

-- the value that a parameter with this range has
abbrev pub number_in_range : List Names → Bool → Operand → Option Range → Const
number_in_range ns signed x None = cut_to x.size (signed || x.sign) (own x)
number_in_range ns signed x (Some r) =
    let n = width_in_range (declared_width ns (Some r)) in cut_to n signed (x.at (max n x.size) x.sign)

-- the expression that is given, or else the parameter's own
abbrev pub given_or : Option Value → Expr → Expr
given_or None e = e
given_or (Some v) e = v.expr

-- the value of a parameter among constants with these numbers
abbrev pub parameter_number : List Names → (List ℕ → Option Value) → Parameter → Const
parameter_number ns given x =
    let value = given_or (given x.name) (known ns x.value) in
    number_in_range ns x.shape.signed (operand_of [] no_names value) x.shape.range
