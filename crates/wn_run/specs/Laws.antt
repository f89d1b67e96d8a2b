-- Between functions: What holds of values and runs of every net. Rule of this project.
use Rattle.std.specs.Prelude.{◌≡◌, ℕ, ◌<◌, List, Some, length, slice_index, slice_get, ◌↔◌}
use Rattle.wn_net.specs.declared.node.Node.{Node}
use Rattle.wn_net.specs.declared.parts.State.{State}
use Rattle.wn_net.specs.Value.{Given, word_at, words_of}
use Rattle.wn_net.specs.Net.{Netlist, IsNet, IsNode, value_at, width_at, values_of}
use Rattle.wn_net.specs.Given.{IsGiven}
use Rattle.wn_net.specs.Changes.{AddsRegs, value_in, width_in}
use Rattle.wn_run.specs.Runs.{Choices, AreChoicesOf, inputs_at, start_of, state_at, cycle_at, IsRun, IsMet, first_regs}

-- the node of this number
abbrev pub IsAt : Netlist → ℕ → Node → Type 0
IsAt net id x = slice_get net.nodes id ≡ Some x

-- each node has the value, and the width, of its kind over those of its own net
abbrev pub EachNodeHasItsValue : Type 0
EachNodeHasItsValue =
    (net : Netlist) (g : Given) (id : ℕ) (x : Node) → IsNet net → IsAt net id x
    → value_at net g id ≡ value_in net g x

abbrev pub EachNodeHasItsWidth : Type 0
EachNodeHasItsWidth =
    (net : Netlist) (id : ℕ) (x : Node) → IsNet net → IsAt net id x → width_at net id ≡ width_in net x

-- two cycles have the same numbers for the inputs, registers and memories of a net
pub record AreAlike (net : Netlist) (g h : Given) : Type 0 where
  pub inputs : (i : ℕ) → i < length net.inputs → slice_index g.inputs i ≡ slice_index h.inputs i
  pub regs : (i : ℕ) → i < length net.regs → slice_index g.state.regs i ≡ slice_index h.state.regs i
  pub words : (m : ℕ) → m < length net.mems → (a : ℕ) → word_at (words_of g m) a ≡ word_at (words_of h m) a

-- values depend on nothing else
abbrev pub ValuesAreAlike : Type 0
ValuesAreAlike =
    (net : Netlist) (g h : Given) → IsNet net → AreAlike net g h → values_of net g ≡ values_of net h

-- the numbers of each cycle of a run are numbers of a cycle of the net
abbrev pub CyclesAreGiven : Type 0
CyclesAreGiven =
    (net : Netlist) (inputs : ℕ → List ℕ) (start : State) (k : ℕ) → IsNet net → IsRun net inputs start
    → IsGiven net (cycle_at net inputs start k)

-- choices make a run
abbrev pub ChoicesMakeRuns : Type 0
ChoicesMakeRuns =
    (net : Netlist) (ch : Choices) → IsNet net → AreChoicesOf net ch
    → IsRun net (inputs_at net ch) (start_of net ch)

-- After more nodes and registers the old part of a run is the old run: the first registers and the memories in each
-- cycle, the value of each old node, and whether the assumptions are met.
pub record HasOldRun (old new : Netlist) (inputs : ℕ → List ℕ) (start : State) (k : ℕ) : Type 0 where
  pub state : first_regs (length old.regs) (state_at new inputs start k)
      ≡ state_at old inputs (first_regs (length old.regs) start) k
  pub value : (id : ℕ) → IsNode old id
      → value_at new (cycle_at new inputs start k) id
      ≡ value_at old (cycle_at old inputs (first_regs (length old.regs) start) k) id
  pub met : IsMet new (cycle_at new inputs start k)
      ↔ IsMet old (cycle_at old inputs (first_regs (length old.regs) start) k)

abbrev pub OldPartsAreOldRuns : Type 0
OldPartsAreOldRuns =
    (old new : Netlist) (inputs : ℕ → List ℕ) (start : State) (k : ℕ) → IsNet old → AddsRegs old new
    → HasOldRun old new inputs start k

-- the inputs are those of the old net, and the starts of its registers too
pub record BeginsAs (old new : Netlist) (ch : Choices) : Type 0 where
  pub inputs : (k : ℕ) → inputs_at new ch k ≡ inputs_at old ch k
  pub start : first_regs (length old.regs) (start_of new ch) ≡ start_of old ch

abbrev pub OldPartsBeginAsOldRuns : Type 0
OldPartsBeginAsOldRuns = (old new : Netlist) (ch : Choices) → AddsRegs old new → BeginsAs old new ch

-- each run of the old net extends: its choices, and some for the registers that were added
pub record Extended (old new : Netlist) (ch : Choices) : Type 0 where
  pub more : Choices
  pub choices : AreChoicesOf new more
  pub inputs : (k : ℕ) → inputs_at new more k ≡ inputs_at old ch k
  pub start : first_regs (length old.regs) (start_of new more) ≡ start_of old ch

abbrev pub RunsExtend : Type 0
RunsExtend = (old new : Netlist) (ch : Choices) → AddsRegs old new → AreChoicesOf old ch → Extended old new ch
