-- Meaning: When numbers are those of a cycle of a net (rule of this project).
use Rattle.std.specs.Prelude.{◌≡◌, ℕ, ◌<◌, ◌^◌, List, [], ◌∷◌, map, length, slice_index}
use Rattle.wn_net.specs.declared.parts.Mem.{Mem}
use Rattle.wn_net.specs.declared.parts.State.{State}
use Rattle.wn_net.specs.Value.{Given, word_at}
use Rattle.wn_net.specs.Net.{Netlist}

-- One number for each width, below 2 to it. Past the end both lists have 0.
pub record AreNumbersOf (widths numbers : List ℕ) : Type 0 where
  pub each : length numbers ≡ length widths
  pub below : (i : ℕ) → slice_index numbers i < 2 ^ slice_index widths i

abbrev pub AreInputsOf : Netlist → List ℕ → Type 0
AreInputsOf net inputs = AreNumbersOf (map (λ i. i.width) net.inputs) inputs

-- as many words as the memory has, each of its width
pub record HasWords (m : Mem) (words : List ℕ) : Type 0 where
  pub each : length words ≡ m.words
  pub below : (i : ℕ) → word_at words i < 2 ^ m.width

abbrev pub AreMemsOf : List Mem → List (List ℕ) → Type 0
AreMemsOf [] [] = Unit {0}
AreMemsOf (m ∷ ms) (words ∷ rest) = HasWords m words × AreMemsOf ms rest
AreMemsOf ms rest = ⊥

-- one number for each register, and for each memory its words
pub record IsStateOf (net : Netlist) (state : State) : Type 0 where
  pub regs : AreNumbersOf (map (λ r. r.width) net.regs) state.regs
  pub mems : AreMemsOf net.mems state.mems

pub record IsGiven (net : Netlist) (g : Given) : Type 0 where
  pub inputs : AreInputsOf net g.inputs
  pub state : IsStateOf net g.state

abbrev pub given : List ℕ → State → Given
given inputs state = record { inputs = inputs; state = state }
