-- Between functions: Frames, and the runs of a net that they tell (rule of this project).
use Rattle.std.specs.Prelude.{◌≡◌, ◌↔◌, ℕ, ◌+◌, ◌<◌, ◌≤◌, ◌^◌, sum, List, [], ◌∷◌, ◌++◌}
use Rattle.std.specs.Prelude.{Some, length, map, slice_get, slice_index, slice_index_or}
use Rattle.std.specs.List.{AllByRecursion}
use Rattle.wn_net.specs.declared.parts.InputKind.TheVariants.{EachCycle, Once}
use Rattle.wn_net.specs.declared.parts.Init.TheVariants.{Free}
use Rattle.wn_net.specs.Width.{Shape, IsWidth, AreFitting}
use Rattle.wn_net.specs.Value.{values}
use Rattle.wn_net.specs.Given.{AreNumbersOf, given}
use Rattle.wn_net.specs.Net.{Netlist, value_at, shape_of}
use Rattle.wn_run.specs.Runs.{Choices, AreChoicesOf, IsAssumed, cycle_at, inputs_at, start_of}
use Rattle.wn_opt.specs.Compact.{IsRead}
use Rattle.bm_unroll.specs.declared.frames.Source.{Source}
use Rattle.bm_unroll.specs.declared.frames.Source.TheVariants as s
use Rattle.bm_unroll.specs.declared.frames.Frames.{Frames}

-- at most a million inputs, and at most a hundred million registers and words of memories together
abbrev pub IsWithin : Netlist → Type 0
IsWithin net =
    (length net.inputs ≤ 1000000) × (length net.regs + sum (map (λ m. m.words) net.mems) ≤ 100000000)

-- ---- sources

-- the number that a source has under choices
abbrev pub chosen : Choices → Source → ℕ
chosen ch (s.Each i k) = ch.each_cycle k i
chosen ch (s.Once i) = ch.once i
chosen ch (s.RegStart r) = ch.regs r
chosen ch (s.WordStart m w) = ch.words m w

-- A source is chosen in the net's runs up to a cycle: an input that may change in each cycle, in one of them; an input
-- that is chosen once; a free register; a free word.
abbrev pub IsChoice : Netlist → ℕ → Source → Type 0
IsChoice net cycle (s.Each i k) = (slice_get (map (λ x. x.kind) net.inputs) i ≡ Some EachCycle) × (k ≤ cycle)
IsChoice net cycle (s.Once i) = slice_get (map (λ x. x.kind) net.inputs) i ≡ Some Once
IsChoice net cycle (s.RegStart r) = slice_get (map (λ x. x.init) net.regs) r ≡ Some Free
IsChoice net cycle (s.WordStart m w) = slice_get (slice_index_or (map (λ x. x.init) net.mems) m []) w ≡ Some Free

abbrev pub source_width : Netlist → Source → ℕ
source_width net (s.Each i k) = slice_index (shape_of net).inputs i
source_width net (s.Once i) = slice_index (shape_of net).inputs i
source_width net (s.RegStart r) = slice_index (shape_of net).regs r
source_width net (s.WordStart m w) = slice_index (shape_of net).mems m

-- no two are equal
abbrev pub AreDistinct : List Source → Type 0
AreDistinct [] = Unit {0}
AreDistinct (x ∷ xs) = AllByRecursion (λ y. x ≡ y → ⊥) xs × AreDistinct xs

-- choices of the net's runs under which sources have these numbers
pub record Chooses (net : Netlist) (sources : List Source) (numbers : List ℕ) : Type 0 where
  pub ch : Choices
  pub of_net : AreChoicesOf net ch
  pub same : map (chosen ch) sources ≡ numbers

-- Sources are choices of the net's runs: under each choice they have numbers of their widths, and all such numbers are
-- those under some choice.
pub record AreChosen (net : Netlist) (widths : List ℕ) (sources : List Source) : Type 0 where
  pub number : (ch : Choices) → AreChoicesOf net ch → AreNumbersOf widths (map (chosen ch) sources)
  pub choice : (numbers : List ℕ) → AreNumbersOf widths numbers → Chooses net sources numbers

-- ---- frames

-- the sources as inputs, and neither registers nor memories
abbrev pub frames_shape : Frames → Shape
frames_shape f = record { inputs = f.widths; regs = []; mems = [] }

-- the value of each node where the sources have these numbers
abbrev pub values_by : Frames → List ℕ → List ℕ
values_by f numbers = values (frames_shape f) (given numbers (record { regs = []; mems = [] })) [] [] f.nodes

-- and under choices
abbrev pub values_under : Frames → Choices → List ℕ
values_under f ch = values_by f (map (chosen ch) f.sources)

-- what holds of all frames
pub record IsFrames (f : Frames) : Type 0 where
  pub nodes : AreFitting (frames_shape f) [] f.nodes
  pub widths : AllByRecursion IsWidth f.widths
  pub each : length f.widths ≡ length f.sources
  pub few : length f.sources < 2 ^ 32
  pub roots : AllByRecursion (λ id. id < length f.nodes) f.roots
  pub watch : AllByRecursion (λ id. id < length f.nodes) f.watch

-- a root or a watched node reads each source, through what nodes read
abbrev pub AreRead : Frames → Type 0
AreRead f = (i : ℕ) → i < length f.sources → IsRead f.nodes (f.roots ++ f.watch) i

-- ---- runs

-- the run with these choices meets the assumptions up to a cycle, and the node is other than 0 in it
abbrev pub IsBadRun : Netlist → ℕ → ℕ → Choices → Type 0
IsBadRun net bad cycle ch =
    IsAssumed net (inputs_at net ch) (start_of net ch) cycle
    × (value_at net (cycle_at net (inputs_at net ch) (start_of net ch) cycle) bad ≡ 0 → ⊥)

-- under each choice the roots are all other than 0 exactly where the run is such a one
abbrev pub HasRoots : Netlist → ℕ → ℕ → Frames → Type 0
HasRoots net bad cycle f =
    (ch : Choices) → AreChoicesOf net ch
    → AllByRecursion (λ id. slice_index (values_under f ch) id ≡ 0 → ⊥) f.roots ↔ IsBadRun net bad cycle ch

-- under each choice the watched nodes have the values that they have in the cycle
abbrev pub HasWatch : Netlist → List ℕ → ℕ → Frames → Type 0
HasWatch net watch cycle f =
    (ch : Choices) → AreChoicesOf net ch
    → map (slice_index (values_under f ch)) f.watch
    ≡ map (value_at net (cycle_at net (inputs_at net ch) (start_of net ch) cycle)) watch
