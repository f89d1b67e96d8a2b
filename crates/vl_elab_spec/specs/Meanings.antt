-- Meaning: What a name means while a design is judged. A parameter has its value, and a net or a variable its shape,
-- only where its own declaration isn't refused for them: what uses the name before isn't refused then, and the
-- declaration is, in its place. IEEE 1364-2005, sections 3.11, 4.2.1 and 12.7; that order is a rule of this project.
use Rattle.std.specs.Prelude.{
  ℕ,
  List,
  [],
  ◌∷◌,
  ◌++◌,
  map,
  Bool,
  true,
  false,
  ◌&&◌,
  ◌||◌,
  not,
  is_some,
  is_none,
}
use Rattle.std.specs.Prelude.{nat_le, Option, Some, None, ℤ, pos, int_le, bytes_eq, if◌then◌else◌}
use Rattle.vl_tree.specs.declared.declaration.DeclaredName.{DeclaredName}
use Rattle.vl_tree.specs.declared.declaration.Direction.{Direction}
use Rattle.vl_tree.specs.declared.declaration.Direction.TheVariants as direction
use Rattle.vl_tree.specs.declared.declaration.FullPort.{FullPort}
use Rattle.vl_tree.specs.declared.declaration.NetKind.{NetKind}
use Rattle.vl_tree.specs.declared.declaration.NetKind.TheVariants as net
use Rattle.vl_tree.specs.declared.declaration.Parameter.{Parameter}
use Rattle.vl_tree.specs.declared.declaration.ParameterKind.TheVariants as k
use Rattle.vl_tree.specs.declared.declaration.Range.{Range}
use Rattle.vl_tree.specs.Expr.{Expr}
use Rattle.vl_tree.specs.Item.{Item, Items, declaration, integer, genvar, parameter, no_items, more_items}
use Rattle.vl_size.specs.declared.decl.Decl.{Decl}
use Rattle.vl_size.specs.declared.context.Context.{Context}
use Rattle.vl_size.specs.declared.decl.Class.{Class}
use Rattle.vl_size.specs.declared.decl.Class.TheVariants as class
use Rattle.vl_size.specs.Divisors.{larger, valid_size, zero_divisor}
use Rattle.vl_size.specs.Sign.{sign}
use Rattle.vl_size.specs.Size.{size, is_bound, index_of}
use Rattle.vl_size.specs.Table.{span, declared_as}
use Rattle.vl_mean.specs.declared.const_number.Const.{Const}
use Rattle.vl_mean.specs.Cells.{contains_name}
use Rattle.vl_mean.specs.Constants.{constant_of, constant_operand, settled}
use Rattle.vl_mean.specs.Declarations.{Overrides, is_value_or, class_of_attributes, class_of_kind}
use Rattle.vl_mean.specs.Declarations.{joined_attributes}
use Rattle.vl_mean.specs.Scopes.{Scope}
use Rattle.vl_mean.specs.Walk.{Contents, Place, parameter_names, port_names}
use Rattle.vl_elab_spec.specs.declared.role.Role.{Role}
use Rattle.vl_elab_spec.specs.declared.role.Role.TheVariants as roles

pub data Meaning : Type 0 where
  -- no scope declares it
  undeclared : Meaning
  -- a parameter, or the variable of a loop around; whether it may be selected from
  constant : Const → Bool → Meaning
  -- a genvar outside the loops whose heads name it
  loop_variable : Meaning
  -- a net or a variable; what it is declared as, and whether it is a scalar
  object : Decl → Role → Bool → Meaning
  -- a parameter whose own declaration is refused for its value or its shape
  faulty : Meaning
  -- a net or a variable whose own declaration is refused for its shape; it is no constant, whatever that is
  shapeless : Meaning
  -- of the scope of a parameter or a scope around, and no parameter before it
  later : Meaning

-- the names of a scope; the first one of a name counts
abbrev pub Names : Type 0
Names = List (List ℕ × Meaning)

abbrev pub is_undeclared : Meaning → Bool
is_undeclared undeclared = true
is_undeclared m = false

abbrev pub meaning_of : Names → List ℕ → Meaning
meaning_of [] text = undeclared
meaning_of (n ∷ ns) text = if bytes_eq text n.0 then n.1 else meaning_of ns text

-- what a name means in scopes, the innermost first
abbrev pub meaning_in : List Names → List ℕ → Meaning
meaning_in [] text = undeclared
meaning_in (ns ∷ outer) text =
    let here = meaning_of ns text in let around = meaning_in outer text in if is_undeclared here then around else here

abbrev pub value_of : Meaning → Option Const
value_of (constant c selected) = Some c
value_of m = None

abbrev pub constants : List Names → List ℕ → Option Const
constants ns text = value_of (meaning_in ns text)

-- ---- what is known

-- the expression is a constant
abbrev pub is_known : List Names → Expr → Bool
is_known ns e = is_some (valid_size [] (settled (constants ns) e))

-- in this context, without names
abbrev pub is_known_in : Context → Expr → Bool
is_known_in c x = is_some (size [] x) && is_none (zero_divisor [] c x)

-- where so many bits have it assigned
abbrev pub is_known_assigned : List Names → ℕ → Expr → Bool
is_known_assigned ns n e =
    let x = settled (constants ns) e in
    is_known_in (record { size = larger (Some n) (size [] x); signed = sign [] x }) x

abbrev pub bound : List Names → Expr → ℤ
bound ns e = index_of (constant_operand (constants ns) e)

abbrev pub is_known_bound : List Names → Expr → Bool
is_known_bound ns e = is_known ns e && is_bound (bound ns e)

abbrev pub is_known_range : List Names → Option Range → Bool
is_known_range ns None = true
is_known_range ns (Some r) = is_known_bound ns r.left && is_known_bound ns r.right

-- of a declared width; a scalar has one bit
abbrev pub declared_width : List Names → Option Range → ℕ
declared_width ns None = 1
declared_width ns (Some r) = span (bound ns r.left) (bound ns r.right)

abbrev pub is_known_shape : List Names → Option Range → Bool
is_known_shape ns r = is_known_range ns r && nat_le (declared_width ns r) 128

-- ---- the names of a scope

abbrev pub is_overridden : Overrides → List ℕ → Bool
is_overridden [] text = false
is_overridden (o ∷ os) text = bytes_eq text o.name || is_overridden os text

-- the value of a parameter, which is assigned to its range, where it has one
abbrev pub is_known_value : List Names → Option Range → Expr → Bool
is_known_value ns None e = is_known ns e
is_known_value ns (Some r) e = is_known_assigned ns (declared_width ns (Some r)) e

-- a value that is given at an instance is judged there
abbrev pub is_known_parameter : Overrides → List Names → Parameter → Bool
is_known_parameter os ns x =
    is_value_or os x.name (is_known_value ns x.shape.range x.value) && is_known_shape ns x.shape.range

-- with a range it may be selected from where this is `[width - 1 : 0]`
abbrev pub may_be_selected : List Names → Option Range → Bool
may_be_selected ns None = true
may_be_selected ns (Some r) =
    int_le (pos 0) (bound ns r.left) && int_le (bound ns r.right) (pos 0) && int_le (pos 0) (bound ns r.right)

abbrev pub constant_or : Bool → Option Const → Bool → Meaning
constant_or true (Some c) selected = constant c selected
constant_or known c selected = faulty

abbrev pub object_or : Bool → Option Decl → Role → Bool → Meaning
object_or true (Some d) role scalar = object d role scalar
object_or known d role scalar = shapeless

abbrev pub is_variable_class : Class → Bool
is_variable_class class.Variable = true
is_variable_class c = false

-- a memory is of variables, without a value and without `anyseq` and `anyconst`
abbrev pub may_have_words : Class → Option Range → Option Expr → Bool
may_have_words c None value = true
may_have_words c (Some r) value = is_variable_class c && is_none value

abbrev pub role_of_kind : NetKind → Role
role_of_kind net.Wire = roles.Net
role_of_kind net.Reg = roles.Variable

-- an output that isn't a `reg` is a net
abbrev pub role_of_port : Direction → Option NetKind → Role
role_of_port direction.Input kind = roles.Input
role_of_port direction.Output None = roles.Net
role_of_port direction.Output (Some kind) = role_of_kind kind

abbrev pub is_input : Role → Bool
is_input roles.Input = true
is_input role = false

abbrev pub is_declared_variable : Role → Bool
is_declared_variable roles.Variable = true
is_declared_variable role = false

-- the names that an item declares and that may stand in expressions
abbrev pub item_names : Item → List (List ℕ)
item_names (declaration attrs p d) = map (λ x. x.name) d.names
item_names (integer attrs p xs) = map (λ x. x.name) xs
item_names (genvar attrs p xs) = xs
item_names (parameter attrs p kind xs) = map (λ x. x.name) xs
item_names x = []

abbrev pub items_names : Items → List (List ℕ)
items_names no_items = []
items_names (more_items x xs) = item_names x ++ items_names xs

-- before the first parameter
abbrev pub all_later : Contents → Names
all_later c = map (λ text. (text, later)) (parameter_names c.parameters ++ port_names c.ports ++ items_names c.items)

module _ (s : Scope) (outer : List Names) where
  -- a parameter may use those before it, and no other name of its scope
  abbrev pub with_parameter_meanings : Overrides → Names → Names → List Parameter → Names
  with_parameter_meanings os behind ns [] = ns
  with_parameter_meanings os behind ns (x ∷ xs) =
      let around = (ns ++ behind) ∷ outer in
      let selected = may_be_selected around x.shape.range in
      let c = constant_or (is_known_parameter os around x) (constant_of s.constants x.name) selected in
      with_parameter_meanings os behind (ns ++ (x.name, c) ∷ []) xs

  -- a `localparam` isn't overridden
  abbrev pub with_item_constants : Overrides → Names → Names → Items → Names
  with_item_constants os behind ns no_items = ns
  with_item_constants os behind ns (more_items (parameter attrs p k.Parameter xs) more) =
      with_item_constants os behind (with_parameter_meanings os behind ns xs) more
  with_item_constants os behind ns (more_items (parameter attrs p k.Localparam xs) more) =
      with_item_constants os behind (with_parameter_meanings [] behind ns xs) more
  with_item_constants os behind ns (more_items x more) = with_item_constants os behind ns more

  -- over its constants
  abbrev pub port_meanings : List Names → List FullPort → Names
  port_meanings ns [] = []
  port_meanings ns (p ∷ ps) =
      let shape = p.shape.range in (
        p.name,
        object_or (is_known_shape ns shape) (declared_as s.decls p.name) (role_of_port p.direction p.net)
            (is_none shape),
      ) ∷ port_meanings ns ps

  abbrev pub name_meanings : List Names → Class → Role → Bool → Bool → List DeclaredName → Names
  name_meanings ns c role known scalar [] = []
  name_meanings ns c role known scalar (x ∷ xs) =
      let is_right = known && (is_known_range ns x.words && may_have_words c x.words x.value) in
      (x.name, object_or is_right (declared_as s.decls x.name) role scalar)
      ∷ name_meanings ns c role known scalar xs

  abbrev pub item_meanings : List Names → Item → Names
  item_meanings ns (declaration attrs p d) =
      name_meanings ns (class_of_attributes (class_of_kind d.net) (joined_attributes attrs)) (role_of_kind d.net)
      (is_known_shape ns d.shape.range) (is_none d.shape.range) d.names
  item_meanings ns (integer attrs p xs) =
      name_meanings ns (class_of_attributes class.Variable (joined_attributes attrs)) roles.Variable true false xs
  item_meanings ns (genvar attrs p xs) = map (λ text. (text, loop_variable)) xs
  item_meanings ns x = []

  abbrev pub items_meanings : List Names → Items → Names
  items_meanings ns no_items = []
  items_meanings ns (more_items x xs) = item_meanings ns x ++ items_meanings ns xs

-- ---- what stands before: a parameter may use those before it alone, in its scope and in the scopes around

abbrev pub parameters_of : Items → List (List ℕ)
parameters_of no_items = []
parameters_of (more_items (parameter attrs p kind xs) more) = parameter_names xs ++ parameters_of more
parameters_of (more_items x more) = parameters_of more

-- all parameters of a scope
abbrev pub scope_parameters : Contents → List (List ℕ)
scope_parameters c = parameter_names c.parameters ++ parameters_of c.items

-- of the names of a scope, the parameters that don't stand before a step
abbrev pub not_reached : List (List ℕ) → List (List ℕ) → List ℕ × Meaning → List ℕ × Meaning
not_reached parameters earlier n =
    if contains_name parameters n.0 && not (contains_name earlier n.0) then (n.0, later) else n

-- what names mean behind these names of the innermost scope, and in each scope around behind those that stand before
-- the scope within
abbrev pub reached : List Contents → List (List ℕ) → List Names → List Names
reached (c ∷ cs) earlier (ns ∷ outer) =
    map (not_reached (scope_parameters c) earlier) ns ∷ reached cs c.earlier outer
reached cs earlier ns = ns

-- ---- scopes

-- Its parameters use what is reached of the scopes around, and all else in it what names mean there. A loop's variable
-- is its scope's only constant.
abbrev pub scope_meanings : Scope → List Names → List Names → Contents → Names
scope_meanings s before outer c =
    let behind = all_later c in
    let first = with_parameter_meanings s before c.overrides behind [] c.parameters in
    let own = with_item_constants s before c.overrides behind first c.items in
    let around = (own ++ behind) ∷ outer in
    own ++ port_meanings s outer around c.ports ++ items_meanings s outer around c.items
    ++ map (λ x. (x.0, constant x.1 true)) s.constants

abbrev pub all_meanings : List Scope → List Contents → List Names
all_meanings [] cs = []
all_meanings (s ∷ ss) [] = []
all_meanings (s ∷ ss) (c ∷ cs) =
    let outer = all_meanings ss cs in scope_meanings s (reached cs c.earlier outer) outer c ∷ outer

-- what names mean at a step
abbrev pub meanings_at : Place → List Names
meanings_at at = all_meanings at.scopes at.contents

-- what names mean in the value of a parameter, behind what declares these names in its scope
abbrev pub meanings_before : Place → List (List ℕ) → List Names
meanings_before at earlier = reached at.contents earlier (meanings_at at)

-- ---- declarations whose shape is known, as far as no inner name hides them

abbrev pub is_object : Meaning → Bool
is_object (object d role scalar) = true
is_object m = false

abbrev pub objects_of : List Names → Names → List Decl
objects_of all [] = []
objects_of all ((text, object d role scalar) ∷ ns) =
    let more = objects_of all ns in if is_object (meaning_in all text) then d ∷ more else more
objects_of all (n ∷ ns) = objects_of all ns

abbrev pub objects_in : List Names → List Names → List Decl
objects_in all [] = []
objects_in all (ns ∷ outer) = objects_of all ns ++ objects_in all outer

abbrev pub objects : List Names → List Decl
objects ns = objects_in ns ns
