-- Meaning: Runs of a net: its numbers, cycle by cycle (rule of this project).
use Rattle.std.specs.Prelude.{
  ◌≡◌,
  ℕ,
  zero,
  suc,
  ◌+◌,
  ◌<◌,
  ◌≤◌,
  ◌^◌,
  ◌==◌,
  if◌then◌else◌,
  List,
  [],
  ◌∷◌,
  length,
  map,
}
use Rattle.std.specs.Prelude.{take, slice_index}
use Rattle.std.specs.List.{AllByRecursion}
use Rattle.wn_net.specs.declared.parts.Input.{Input}
use Rattle.wn_net.specs.declared.parts.InputKind.{InputKind}
use Rattle.wn_net.specs.declared.parts.InputKind.TheVariants.{EachCycle, Once, Reset}
use Rattle.wn_net.specs.declared.parts.Reg.{Reg}
use Rattle.wn_net.specs.declared.parts.Init.{Init}
use Rattle.wn_net.specs.declared.parts.Init.TheVariants.{Free, Known}
use Rattle.wn_net.specs.declared.parts.Mem.{Mem}
use Rattle.wn_net.specs.declared.parts.State.{State}
use Rattle.wn_net.specs.Value.{Given}
use Rattle.wn_net.specs.Net.{Netlist, value_at}
use Rattle.wn_net.specs.Given.{AreInputsOf, IsStateOf, given}
use Rattle.wn_net.specs.Next.{next_state}

-- ---- choices

-- What is free in a run, by numbers of inputs, registers and memories: an input's number in a cycle, or once; what a
-- register begins with; what each word of a memory does.
pub record Choices : Type 0 where
  pub each_cycle : ℕ → ℕ → ℕ
  pub once : ℕ → ℕ
  pub regs : ℕ → ℕ
  pub words : ℕ → ℕ → ℕ

-- an input's number by its kind
abbrev pub by_kind : ℕ → ℕ → ℕ → InputKind → ℕ
by_kind each once reset EachCycle = each
by_kind each once reset Once = once
by_kind each once reset Reset = reset

-- the numbers of the inputs from the number i on
abbrev pub inputs_from : (ℕ → ℕ) → (ℕ → ℕ) → ℕ → ℕ → List Input → List ℕ
inputs_from each once reset i [] = []
inputs_from each once reset i (x ∷ xs) =
    by_kind (each i) (once i) reset x.kind ∷ inputs_from each once reset (i + 1) xs

-- a reset is 1 in the first cycle and 0 later
abbrev pub reset_at : ℕ → ℕ
reset_at k = if k == 0 then 1 else 0

-- the inputs of cycle k
abbrev pub inputs_at : Netlist → Choices → ℕ → List ℕ
inputs_at net ch k = inputs_from (ch.each_cycle k) ch.once (reset_at k) 0 net.inputs

-- a known number, or the choice
abbrev pub start_number : ℕ → Init → ℕ
start_number choice Free = choice
start_number choice (Known n) = n

-- what the registers from the number i on begin with
abbrev pub regs_from : (ℕ → ℕ) → ℕ → List Reg → List ℕ
regs_from choices i [] = []
regs_from choices i (r ∷ rs) = start_number (choices i) r.init ∷ regs_from choices (i + 1) rs

-- the words from the number i on
abbrev pub words_from : (ℕ → ℕ) → ℕ → List Init → List ℕ
words_from choices i [] = []
words_from choices i (x ∷ xs) = start_number (choices i) x ∷ words_from choices (i + 1) xs

-- the memories from the number i on
abbrev pub mems_from : (ℕ → ℕ → ℕ) → ℕ → List Mem → List (List ℕ)
mems_from choices i [] = []
mems_from choices i (m ∷ ms) = words_from (choices i) 0 m.init ∷ mems_from choices (i + 1) ms

-- what a run begins with
abbrev pub start_of : Netlist → Choices → State
start_of net ch = record { regs = regs_from ch.regs 0 net.regs; mems = mems_from ch.words 0 net.mems }

-- choices have the widths of what they are for
pub record AreChoicesOf (net : Netlist) (ch : Choices) : Type 0 where
  pub each_cycle : (k i : ℕ) → i < length net.inputs
      → ch.each_cycle k i < 2 ^ slice_index (map (λ x. x.width) net.inputs) i
  pub once : (i : ℕ) → i < length net.inputs → ch.once i < 2 ^ slice_index (map (λ x. x.width) net.inputs) i
  pub regs : (i : ℕ) → i < length net.regs → ch.regs i < 2 ^ slice_index (map (λ r. r.width) net.regs) i
  pub words : (m i : ℕ) → m < length net.mems → ch.words m i < 2 ^ slice_index (map (λ m. m.width) net.mems) m

-- ---- cycles, under the inputs of each cycle and any start

-- the state in cycle k
abbrev pub state_at : Netlist → (ℕ → List ℕ) → State → ℕ → State
state_at net inputs start zero = start
state_at net inputs start (suc k) = next_state net (given (inputs k) (state_at net inputs start k))

-- the numbers of cycle k
abbrev pub cycle_at : Netlist → (ℕ → List ℕ) → State → ℕ → Given
cycle_at net inputs start k = given (inputs k) (state_at net inputs start k)

-- the inputs of each cycle, and the start, are numbers of the net
pub record IsRun (net : Netlist) (numbers : ℕ → List ℕ) (first : State) : Type 0 where
  pub inputs : (k : ℕ) → AreInputsOf net (numbers k)
  pub start : IsStateOf net first

-- the assumptions are met in a cycle: none has the value 0
abbrev pub IsMet : Netlist → Given → Type 0
IsMet net g = AllByRecursion (λ id. value_at net g id ≡ 0 → ⊥) net.assumes

-- and in each cycle up to d
abbrev pub IsAssumed : Netlist → (ℕ → List ℕ) → State → ℕ → Type 0
IsAssumed net inputs start d = (k : ℕ) → k ≤ d → IsMet net (cycle_at net inputs start k)

-- the first registers, and all memories
abbrev pub first_regs : ℕ → State → State
first_regs n s = record { regs = take n s.regs; mems = s.mems }
