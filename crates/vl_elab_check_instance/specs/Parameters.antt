-- Between functions: The parameters of a module that may be given a value, by name. IEEE 1364-2005, section 12.2; that
-- the first one of a name counts is a rule of this project.
use Rattle.std.specs.Prelude.{◌≡◌, ℕ, List, [], ◌++◌, Option, Some, None, bytes_eq, slice_get}
use Rattle.std.specs.Map.{lookup}
use Rattle.vl_tree.specs.declared.declaration.HeaderParameter.{HeaderParameter}
use Rattle.vl_tree.specs.declared.declaration.Parameter.{Parameter}
use Rattle.vl_tree.specs.declared.declaration.ParameterKind.TheVariants as k
use Rattle.vl_tree.specs.declared.source.Module.{Module}
use Rattle.vl_tree.specs.Item.{Item, parameter, items}
use Rattle.vl_mean.specs.Declarations.{header_parameters}
use Rattle.vl_mean.specs.Walk.{header_of}
use Rattle.vl_elab_spec.specs.Items.{items_parameters, parameter_named}
use Rattle.vl_elab_check_instance.specs.declared.parameters.ParameterTable.{ParameterTable}
use Rattle.vl_elab_check_instance.specs.declared.parameters.Spot.{Spot}
use Rattle.vl_elab_check_instance.specs.declared.parameters.Spot.TheVariants as s

-- ---- the parameter that stands at a place

-- of an item
abbrev pub parameter_in : Option Item → ℕ → Option Parameter
parameter_in None i = None
parameter_in (Some (parameter attrs p kind xs)) i = slice_get xs i
parameter_in (Some x) i = None

-- of the parameters of a head
abbrev pub header_in : Option HeaderParameter → Option Parameter
header_in None = None
header_in (Some x) = Some x.parameter

-- in a module with this head and these items
abbrev pub parameter_at : List HeaderParameter → List Item → Spot → Option Parameter
parameter_at hs xs (s.Header i) = header_in (slice_get hs i)
parameter_at hs xs (s.Item i j) = parameter_in (slice_get xs i) j

-- where a place is known
abbrev pub found_at : List HeaderParameter → List Item → Option Spot → Option Parameter
found_at hs xs None = None
found_at hs xs (Some spot) = parameter_at hs xs spot

-- ---- tables of them

-- the place that a table has for a name
abbrev pub spot_in : ParameterTable → List ℕ → Option Spot
spot_in table text = lookup (λ key. bytes_eq text key.items) table.spots.entries

-- by the table these are found by their names, and no others
abbrev pub Finds : ParameterTable → List HeaderParameter → List Item → List Parameter → Type 0
Finds table hs xs ps = (text : List ℕ) → found_at hs xs (spot_in table text) ≡ parameter_named ps text

-- those of an item
abbrev pub given_of : Item → List Parameter
given_of (parameter attrs p k.Parameter xs) = xs
given_of x = []

-- the table is of a head with these parameters and of these items
abbrev pub AreParameters : ParameterTable → List HeaderParameter → List Item → Type 0
AreParameters table hs xs = Finds table hs xs (header_parameters hs ++ items_parameters (items xs))

-- it is of the module
abbrev pub AreParametersOf : ParameterTable → Module → Type 0
AreParametersOf table m = AreParameters table (header_of m.parameters) m.items
