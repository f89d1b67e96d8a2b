-- Between functions: The steps of an item, a block and a module by their parts, and how deep blocks stand in one
-- another. IEEE 1364-2005, sections 12.1 and 12.4.
use Rattle.std.specs.Prelude.{
  ◌≡◌,
  ℕ,
  max,
  List,
  [],
  ◌∷◌,
  ◌++◌,
  Bool,
  true,
  false,
  Option,
  Some,
  None,
  if◌then◌else◌,
}
use Rattle.vl_tree.specs.declared.part.Instance.{Instance}
use Rattle.vl_tree.specs.declared.source.Module.{Module}
use Rattle.vl_tree.specs.Item.{
  Item,
  Items,
  Block,
  instance,
  for_loop,
  if_only,
  if_else,
  no_items,
  more_items,
  begin,
  region,
  single,
  items,
  items_depth,
}
use Rattle.vl_size.specs.Size.{is_true}
use Rattle.vl_mean.specs.Cells.{contains_name}
use Rattle.vl_mean.specs.Constants.{constant_operand}
use Rattle.vl_mean.specs.Declarations.{block_name, is_if, label_of, ports_of}
use Rattle.vl_mean.specs.Scopes.{constant_in}
use Rattle.vl_mean.specs.Walk.{Place, Step, Unfolding, Use, Valued, all_valued, with_earlier, module_parameters}
use Rattle.vl_mean.specs.Walk.{parameter_names, port_names, written_ports, header_steps, port_steps, instance_steps}
use Rattle.vl_mean.specs.Walk.{module_scope, connections_of, override_steps, connection_steps, items_walk}
use Rattle.vl_mean.specs.Walk.{turn_walk, block_walk, loop_walk}
use Rattle.vl_mean.specs.Walk.{turn_place, turn_path}

-- ---- blocks of generate constructs

-- the items of a block
abbrev pub block_items : Block → Items
block_items (begin p label xs) = xs
block_items (region p xs) = xs
block_items (single x) = more_items x no_items

-- an `if` alone in a block, which is directly nested
abbrev pub nested_if : Block → Option Item
nested_if (single x) = if is_if x then Some x else None
nested_if b = None

-- of a generate `if`
abbrev pub chosen_block : Bool → Block → Option Block → Option Block
chosen_block true first second = Some first
chosen_block false first second = second

-- by a condition that has no value none
abbrev pub chosen_by : Option Bool → Block → Option Block → Option Block
chosen_by None first second = None
chosen_by (Some holds) first second = chosen_block holds first second

-- ---- items

module _ (valued : Valued) (ms : List Module) (inner : Unfolding) where
  abbrev pub chosen_walk : Option Block → Place → ℕ → List Step
  chosen_walk None at n = []
  chosen_walk (Some b) at n = block_walk valued ms inner b at n

  -- behind the item itself: of an instance its module, of a loop its turns, of an `if` the chosen block
  abbrev pub inner_walk : Item → Place → ℕ → List Step
  inner_walk (instance attrs p x) at n = instance_steps valued ms inner at x
  inner_walk (for_loop attrs p head b) at n =
      let label = block_name at.names n (label_of b) in
      loop_walk valued head at
      (λ c. turn_walk valued ms inner b (turn_place at head.variable c) (turn_path at.path label c))
  inner_walk (if_only attrs p c b) at n =
      let block = block_walk valued ms inner b at n in
      let chosen = if is_true (constant_operand (constant_in at.scopes) c) then block else [] in
      if valued at c then chosen else []
  inner_walk (if_else attrs p c b d) at n =
      let first = block_walk valued ms inner b at n in
      let second = block_walk valued ms inner d at n in
      let chosen = if is_true (constant_operand (constant_in at.scopes) c) then first else second in
      if valued at c then chosen else []
  inner_walk x at n = []

-- where each expression has a value
module _ (ms : List Module) (inner : Unfolding) where
  abbrev pub chosen_steps : Option Block → Place → ℕ → List Step
  chosen_steps = chosen_walk all_valued ms inner

  abbrev pub inner_steps : Item → Place → ℕ → List Step
  inner_steps = inner_walk all_valued ms inner

-- ---- modules

-- of the head: its parameters and its ports
abbrev pub head_steps : Place → Module → Use → List Step
head_steps at m u =
    header_steps at (module_parameters m)
    ++ port_steps (with_earlier at (parameter_names (module_parameters m))) u None (written_ports m.ports)

abbrev pub behind_head : Place → Module → Place
behind_head at m = with_earlier at (parameter_names (module_parameters m) ++ port_names (ports_of m.ports))

-- behind those of its instance
abbrev pub opened_walk : Valued → List Module → Unfolding → Place → Module → Use → List Step
opened_walk valued ms inner at m u =
    head_steps at m u ++ items_walk valued ms inner (items m.items) (behind_head at m) 1

abbrev pub module_steps : List Module → Unfolding → Place → Module → Use → List Step
module_steps = opened_walk all_valued

-- what an instance gives to its module and joins to it
abbrev pub front_steps : Place → Module → Use → List ℕ → Instance → List Step
front_steps at m u path x =
    override_steps at m u [] (connections_of x.overrides)
    ++ connection_steps at m u (module_scope m u path ∷ []) [] x.connections

-- an instance stands in none of the modules around it
abbrev pub IsNotRecursive : Item → Place → Type 0
IsNotRecursive (instance attrs p x) at = contains_name at.modules x.definition ≡ false
IsNotRecursive x at = Unit {0}

-- how deep blocks stand in one another in a module at most
abbrev pub deepest : List Module → ℕ
deepest [] = 0
deepest (m ∷ ms) = max (items_depth (items m.items)) (deepest ms)
