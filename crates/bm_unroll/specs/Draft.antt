-- Between functions: Frames that are being made: a net whose inputs are the sources (rule of this project).
use Rattle.std.specs.Prelude.{◌≡◌, ℕ, ◌+◌, ◌*◌, ◌^◌, ◌<◌, ◌≤◌, List, [], ◌∷◌}
use Rattle.std.specs.Prelude.{length, map, slice_index_or}
use Rattle.std.specs.List.{AllByRecursion}
use Rattle.wn_net.specs.declared.parts.State.{State}
use Rattle.wn_net.specs.Value.{Given}
use Rattle.wn_net.specs.Net.{Netlist, IsNodeOf, AreNodes, shape_of, value_at}
use Rattle.wn_net.specs.Changes.{Grows, IsBegun}
use Rattle.wn_run.specs.Runs.{Choices, inputs_at, start_of}
use Rattle.wn_mem.specs.Words.{numbers_of, words_width}
use Rattle.bm_unroll.specs.declared.state.StartNodes.{StartNodes}
use Rattle.bm_unroll.specs.declared.state.StateNodes.{StateNodes}
use Rattle.bm_unroll.specs.Memories.{HaveWords}
use Rattle.bm_unroll.specs.Cycle.{state_by, widths_at}
use Rattle.bm_unroll.specs.Walk.{IsStart}
use Rattle.bm_unroll.specs.declared.frames.Source.{Source}
use Rattle.bm_unroll.specs.declared.frames.Source.TheVariants as s
use Rattle.bm_unroll.specs.declared.draft.Draft.{Draft}
use Rattle.bm_unroll.specs.Frames.{AreDistinct, IsChoice, chosen, source_width}

-- the first numbers are those that the sources have under choices
abbrev pub Agree : Choices → List Source → List ℕ → Type 0
Agree ch [] ns = Unit {0}
Agree ch (x ∷ xs) [] = ⊥
Agree ch (x ∷ xs) (n ∷ ns) = (n ≡ chosen ch x) × Agree ch xs ns

-- The place of a source in an order in which each is made once: the starts of registers, those of words, and then the
-- inputs by cycles.
abbrev pub rank : Source → ℕ
rank (s.RegStart r) = r
rank (s.WordStart m w) = 2 ^ 32 + m * 2 ^ 32 + w
rank (s.Once i) = 2 ^ 66 + i
rank (s.Each i k) = 2 ^ 66 + k * 2 ^ 32 + i

-- What holds of a draft of a net's frames, all of whose sources are before one of this rank.
pub record IsDraft (net : Netlist) (cycle bound : ℕ) (d : Draft) : Type 0 where
  pub no_regs : d.net.regs ≡ []
  pub no_mems : d.net.mems ≡ []
  pub inputs : map (λ x. x.width) d.net.inputs ≡ d.widths.items
  pub widths : d.widths.items ≡ map (source_width net) d.sources.items
  pub choices : AllByRecursion (IsChoice net cycle) d.sources.items
  pub distinct : AreDistinct d.sources.items
  pub before : AllByRecursion (λ x. rank x < bound) d.sources.items

-- each input is a source, and so many more may come
pub record HasRoom (d : Draft) (count : ℕ) : Type 0 where
  pub each : length d.net.inputs ≡ length d.sources.items
  pub few : length d.sources.items + count < 2 ^ 32

-- nodes and at most so many sources are added behind those that were there, and each input is a source
pub record Extends (old new : Draft) (count : ℕ) : Type 0 where
  pub each : length new.net.inputs ≡ length new.sources.items
  pub grows : Grows old.net new.net
  pub sources : IsBegun old.sources.items new.sources.items
  pub few : length new.sources.items ≤ length old.sources.items + count

-- a node has a width, and under each choice a number
pub record Means (d : Draft) (width : ℕ) (number : Choices → ℕ) (id : ℕ) : Type 0 where
  pub there : IsNodeOf d.net width id
  pub value : (ch : Choices) (g : Given) → Agree ch d.sources.items g.inputs → value_at d.net g id ≡ number ch

-- nodes have widths, and under each choice numbers
pub record MeansAll (d : Draft) (widths : List ℕ) (numbers : Choices → List ℕ) (ids : List ℕ) : Type 0 where
  pub there : AreNodes d.net ids
  pub wide : widths_at d.net ids ≡ widths
  pub values : (ch : Choices) (g : Given) → Agree ch d.sources.items g.inputs
      → numbers_of d.net g ids ≡ numbers ch

-- nodes are there for the words of memories, of one width each
abbrev pub AreWordLists : Netlist → List (List ℕ) → Type 0
AreWordLists net mems = AllByRecursion (HaveWords net) mems

-- and so for the words of memories
pub record MeansMems (d : Draft) (widths : List ℕ) (numbers : Choices → List (List ℕ))
    (mems : List (List ℕ)) : Type 0 where
  pub there : AreWordLists d.net mems
  pub wide : map (words_width d.net) mems ≡ widths
  pub values : (ch : Choices) (g : Given) → Agree ch d.sources.items g.inputs
      → map (numbers_of d.net g) mems ≡ numbers ch

-- rows stand for the inputs of the first cycles
abbrev pub HasRows : Netlist → Draft → List (List ℕ) → Type 0
HasRows net d rows =
    (k : ℕ) → k < length rows
    → MeansAll d (shape_of net).inputs (λ ch. inputs_at net ch k) (slice_index_or rows k [])

-- the numbers of the state for which nodes at first stand
abbrev pub start_by : Netlist → Given → StartNodes → State
start_by net g start = record { regs = numbers_of net g start.regs; mems = map (numbers_of net g) start.mems }

-- and nodes for the state of the first cycle
pub record HasStart (net : Netlist) (d : Draft) (start : StartNodes) : Type 0 where
  pub regs_there : AreNodes d.net start.regs
  pub mems_there : AreWordLists d.net start.mems
  pub regs : widths_at d.net start.regs ≡ (shape_of net).regs
  pub mems : map (words_width d.net) start.mems ≡ (shape_of net).mems
  pub values : (ch : Choices) (g : Given) → Agree ch d.sources.items g.inputs
      → start_by d.net g start ≡ start_of net ch

-- the same, each memory in its form
pub record HasBegun (net : Netlist) (d : Draft) (state : StateNodes) : Type 0 where
  pub start : IsStart d.net (shape_of net) state
  pub values : (ch : Choices) (g : Given) → Agree ch d.sources.items g.inputs
      → state_by d.net g state ≡ start_of net ch
