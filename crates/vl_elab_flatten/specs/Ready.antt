-- Between functions: Steps that may be written behind what stands in a design without hierarchy, by what is seen of
-- them: their parts, the places of the drivers among these, and the scopes in which their names are read. Rule of this
-- project.
use Rattle.std.specs.Prelude.{◌≡◌, ℕ, List, [], ◌∷◌, true}
use Rattle.fv_bits.specs.Bits.{as_int}
use Rattle.vl_tree.specs.declared.part.Instance.{Instance}
use Rattle.vl_tree.specs.declared.part.LoopHead.{LoopHead}
use Rattle.vl_tree.specs.declared.source.Module.{Module}
use Rattle.vl_tree.specs.Item.{Block, Item, Items, items}
use Rattle.vl_size.specs.Size.{is_bound}
use Rattle.vl_mean.specs.declared.const_number.Const.{Const}
use Rattle.vl_mean.specs.Declarations.{block_name, label_of}
use Rattle.vl_mean.specs.Runs.{Each}
use Rattle.vl_mean.specs.Walk.{all_valued}
use Rattle.vl_mean.specs.Walk.{
  Place,
  Step,
  block_place,
  block_steps,
  instance_steps,
  item_steps,
  items_steps,
  loop_turns,
  turn_path,
  turn_place,
  turn_steps,
  Use,
  top_input,
  unfolded,
  walk,
  written_ports,
}
use Rattle.vl_mean_flat.specs.Seen.{Seen, parts_of_seen, places_of_seen, seen_steps}
use Rattle.vl_elab_spec.specs.Within.{inner_steps}
use Rattle.vl_elab_draft.specs.Written.{Written}
use Rattle.vl_elab_const.specs.Openable.{AreOpenable}
use Rattle.vl_elab_flatten.specs.declared.here.Here.{Here}
use Rattle.vl_elab_flatten.specs.declared.modules.Opened.{Opened}
use Rattle.vl_elab_flatten.specs.Here.{place_in}
use Rattle.vl_elab_flatten.specs.PortParts.{placed_ports}
use Rattle.vl_elab_emit.specs.Behind.{MayStandBehind, Placed, StandBehind}

-- the scopes of a step can be opened
abbrev pub CanBeOpened : Seen → Type 0
CanBeOpened x = Each AreOpenable x.scopes

-- so can the scopes of all, and their parts may be written
pub record IsReady (w : Written) (xs : List Seen) : Type 0 where
  pub openable : Each CanBeOpened xs
  pub may : MayStandBehind w (parts_of_seen xs)

abbrev pub placed_seen : List Seen → Placed
placed_seen xs = record { parts = parts_of_seen xs; places = places_of_seen xs }

-- their parts stand behind, in their places
abbrev pub Writes : Written → List Seen → Written → Type 0
Writes w xs v = StandBehind w (placed_seen xs) v

-- the value of a loop's variable has 32 signed bits
abbrev pub IsTurn : Const → Type 0
IsTurn c = is_bound (as_int c.width c.signed c.value) ≡ true

-- where the walk stands
abbrev pub place_of : Here → Place
place_of h = place_in h.scopes h.path h.names

-- with instances no deeper than the number
module _ (ms : List Module) (depth : ℕ) where
  abbrev pub item_seen : Item → Place → ℕ → List Seen
  item_seen x at n = seen_steps (item_steps ms (unfolded depth ms) x at n)

  abbrev pub items_seen : Items → Place → ℕ → List Seen
  items_seen xs at n = seen_steps (items_steps ms (unfolded depth ms) xs at n)

  -- of what is in an item
  abbrev pub inner_seen : Item → Place → ℕ → List Seen
  inner_seen x at n = seen_steps (inner_steps ms (unfolded depth ms) x at n)

  -- of a block of an `if`
  abbrev pub block_seen : Block → Place → ℕ → List Seen
  block_seen b at n = seen_steps (block_steps ms (unfolded depth ms) b at n)

  -- of a block with these items that makes a scope under a path
  abbrev pub scope_seen : Items → Place → List ℕ → List Seen
  scope_seen xs at path = items_seen xs (block_place at path xs) 1

  abbrev pub turn_body : LoopHead → Block → Place → List ℕ → Const → List Step
  turn_body head b at label c =
      turn_steps ms (unfolded depth ms) b (turn_place at head.variable c) (turn_path at.path label c)

  -- of the turn with this value
  abbrev pub turn_seen : LoopHead → Block → Place → List ℕ → Const → List Seen
  turn_seen head b at label c = seen_steps (turn_body head b at label c)

  -- of all turns of construct n
  abbrev pub turns_seen : LoopHead → Block → Place → ℕ → List Seen
  turns_seen head b at n =
      seen_steps (loop_turns head at.scopes (turn_body head b at (block_name at.names n (label_of b))))

  abbrev pub instance_seen : Instance → Place → List Seen
  instance_seen x at = seen_steps (instance_steps all_valued ms (unfolded depth ms) at x)

  -- of a module that is opened so: its ports, and its items
  abbrev pub opened_seen : Module → Opened → List Seen
  opened_seen m o =
      let ports = placed_ports o.here.scopes o.here.path o.ports (written_ports m.ports) in
      record { parts = ports.parts; places = ports.places; scopes = [] }
      ∷ items_seen (items m.items) (place_of o.here) 1

-- of the whole design
abbrev pub design_seen : List Module → List ℕ → List Seen
design_seen ms top = seen_steps (walk ms top)

-- the top module is used so
abbrev pub top_use : Use
top_use = record { is_top = true; overrides = []; input = top_input }
