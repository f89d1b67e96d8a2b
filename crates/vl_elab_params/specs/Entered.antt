-- Between functions: Parameters of a scope as they are entered while a design is judged: what the functions that enter
-- them promise one another. Rule of this project.
use Rattle.std.specs.Prelude.{ℕ, List, [], ◌∷◌, ◌++◌, drop, Bool, true, false, ◌&&◌, ◌||◌, map}
use Rattle.std.specs.Prelude.{Option, Some, None, if◌then◌else◌}
use Rattle.vl_tree.specs.declared.declaration.HeaderParameter.{HeaderParameter}
use Rattle.vl_tree.specs.declared.declaration.Parameter.{Parameter}
use Rattle.vl_tree.specs.declared.declaration.ParameterKind.TheVariants as k
use Rattle.vl_tree.specs.declared.declaration.Port.{Port}
use Rattle.vl_tree.specs.declared.declaration.PortKind.{PortKind}
use Rattle.vl_tree.specs.declared.declaration.PortKind.TheVariants as port
use Rattle.vl_tree.specs.Item.{Item, Items, parameter, no_items, more_items, items}
use Rattle.vl_mean.specs.declared.const_number.Const.{Const}
use Rattle.vl_mean.specs.Declarations.{header_parameters}
use Rattle.vl_mean.specs.Walk.{parameter_names}
use Rattle.vl_elab_spec.specs.Meanings.{Meaning, constant, faulty, later, Names, is_known_value, is_known_shape}
use Rattle.vl_elab_spec.specs.Meanings.{may_be_selected, items_names}
use Rattle.vl_elab_scope.specs.Seen.{innermost, with_name}
use Rattle.vl_elab_const.specs.declared.given.Value.{Value}
use Rattle.vl_elab_const.specs.Given.{known_or}
use Rattle.vl_elab_const.specs.Numbers.{parameter_number}

-- what names mean, and the numbers of constants
pub record Stacks : Type 0 where
  pub names : List Names
  pub numbers : List Names

abbrev pub stacks : List Names → List Names → Stacks
stacks names numbers = record { names = names; numbers = numbers }

-- with a name more in it
abbrev pub in_innermost : List Names → List ℕ → Meaning → List Names
in_innermost ns text m = with_name (innermost ns) text m ∷ drop 1 ns

-- ---- parameters, behind those before them

-- a constant that is known, and whether it may be selected from
abbrev pub constant_if : Const → Option Bool → Meaning
constant_if c None = faulty
constant_if c (Some selected) = constant c selected

module _ (given : List ℕ → Option Value) where
  abbrev pub is_known_parameter : List Names → Parameter → Bool
  is_known_parameter ns x =
      known_or (given x.name) (is_known_value ns x.shape.range x.value) && is_known_shape ns x.shape.range

  -- whether it may be selected from, where it is known
  abbrev pub selected_if_known : List Names → Parameter → Option Bool
  selected_if_known ns x = if is_known_parameter ns x then Some (may_be_selected ns x.shape.range) else None

  abbrev pub with_parameter : Stacks → Parameter → Stacks
  with_parameter s x =
      let c = parameter_number s.numbers given x in
      stacks (in_innermost s.names x.name (constant_if c (selected_if_known s.names x)))
      (in_innermost s.numbers x.name (constant c true))

  abbrev pub with_parameters : Stacks → List Parameter → Stacks
  with_parameters s [] = s
  with_parameters s (x ∷ xs) = with_parameters (with_parameter s x) xs

-- a `localparam` is given nothing
abbrev pub none_given : List ℕ → Option Value
none_given text = None

module _ (given : List ℕ → Option Value) where
  abbrev pub with_item : Stacks → Item → Stacks
  with_item s (parameter attrs p k.Parameter xs) = with_parameters given s xs
  with_item s (parameter attrs p k.Localparam xs) = with_parameters none_given s xs
  with_item s x = s

  abbrev pub with_items : Stacks → Items → Stacks
  with_items s no_items = s
  with_items s (more_items x more) = with_items (with_item s x) more

-- ---- the names of a scope, before its parameters

abbrev pub with_later : Names → List (List ℕ) → Names
with_later ns [] = ns
with_later ns (text ∷ texts) = with_later (with_name ns text later) texts

abbrev pub all_are_later : List (List ℕ) → Names
all_are_later texts = map (λ text. (text, later)) texts

-- the names of ports; one that is written short stands behind another
abbrev pub port_text : Bool → PortKind → List (List ℕ)
port_text behind (port.Full p) = p.name ∷ []
port_text true (port.Short text value) = text ∷ []
port_text false (port.Short text value) = []

abbrev pub is_full : PortKind → Bool
is_full (port.Full p) = true
is_full (port.Short text value) = false

abbrev pub port_texts : Bool → List Port → List (List ℕ)
port_texts behind [] = []
port_texts behind (p ∷ ps) = port_text behind p.kind ++ port_texts (behind || is_full p.kind) ps

-- all names of a scope
abbrev pub names_behind : List HeaderParameter → List Port → List Item → Names
names_behind parameters ports all =
    with_later [] (parameter_names (header_parameters parameters) ++ port_texts false ports ++ items_names (items all))

-- ---- the whole: a scope whose names are all behind its parameters, and one for the parameters in it

abbrev pub entered : (List ℕ → Option Value) → List Parameter → Items → Names → List Names → List Names → Stacks
entered given parameters all behind around beneath =
    with_items given (with_parameters given (stacks ([] ∷ behind ∷ around) ([] ∷ beneath)) parameters) all
