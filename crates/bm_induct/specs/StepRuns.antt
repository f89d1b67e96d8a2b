-- Meaning: The two halves of an induction on the runs of a net: runs up to a cycle, and cycles from any state without
-- reset. Rule of this project.
use Rattle.std.specs.Prelude.{◌≡◌, ℕ, ◌+◌, ◌<◌, ◌≤◌, List, [], ◌∷◌}
use Rattle.wn_net.specs.declared.parts.Init.{Init}
use Rattle.wn_net.specs.declared.parts.Reg.{Reg}
use Rattle.wn_net.specs.declared.parts.Mem.{Mem}
use Rattle.wn_net.specs.declared.parts.State.{State}
use Rattle.wn_net.specs.Value.{Given}
use Rattle.wn_net.specs.Net.{Netlist, value_at}
use Rattle.wn_run.specs.Runs.{Choices, IsAssumed, cycle_at, inputs_at, inputs_from, start_of}

-- ---- step runs

-- the inputs of a cycle, where each reset is 0
abbrev pub step_inputs : Netlist → Choices → ℕ → List ℕ
step_inputs net ch k = inputs_from (ch.each_cycle k) ch.once 0 0 net.inputs

-- the registers from the number i on begin with what is chosen, whatever their own starts are
abbrev pub all_regs : (ℕ → ℕ) → ℕ → List Reg → List ℕ
all_regs choices i [] = []
all_regs choices i (r ∷ rs) = choices i ∷ all_regs choices (i + 1) rs

-- and so the words from the number i on
abbrev pub all_words : (ℕ → ℕ) → ℕ → List Init → List ℕ
all_words choices i [] = []
all_words choices i (x ∷ xs) = choices i ∷ all_words choices (i + 1) xs

-- and the memories from the number i on
abbrev pub all_mems : (ℕ → ℕ → ℕ) → ℕ → List Mem → List (List ℕ)
all_mems choices i [] = []
all_mems choices i (m ∷ ms) = all_words (choices i) 0 m.init ∷ all_mems choices (i + 1) ms

-- what a step run begins with
abbrev pub step_start : Netlist → Choices → State
step_start net ch = record { regs = all_regs ch.regs 0 net.regs; mems = all_mems ch.words 0 net.mems }

-- the numbers of cycle k of the step run with these choices
abbrev pub step_cycle : Netlist → Choices → ℕ → Given
step_cycle net ch k = cycle_at net (step_inputs net ch) (step_start net ch) k

-- A step run of length k, with these choices: it meets the assumptions in its cycles 0 to k, and the bad node is 0 in
-- those before k and other than 0 in k.
pub record IsStepRun (net : Netlist) (bad k : ℕ) (ch : Choices) : Type 0 where
  pub assumed : IsAssumed net (step_inputs net ch) (step_start net ch) k
  pub before : (j : ℕ) → j < k → value_at net (step_cycle net ch j) bad ≡ 0
  pub last : value_at net (step_cycle net ch k) bad ≡ 0 → ⊥

-- ---- runs up to a cycle

-- the numbers of cycle k of the run with these choices
abbrev pub run_cycle : Netlist → Choices → ℕ → Given
run_cycle net ch k = cycle_at net (inputs_at net ch) (start_of net ch) k

-- For some j from 1 to k the run with these choices meets the assumptions in its cycles 0 to j, and the bad node is
-- other than 0 in j.
pub record IsBaseRun (net : Netlist) (bad k : ℕ) (ch : Choices) : Type 0 where
  pub at : ℕ
  pub some : 1 ≤ at
  pub few : at ≤ k
  pub assumed : IsAssumed net (inputs_at net ch) (start_of net ch) at
  pub fails : value_at net (run_cycle net ch at) bad ≡ 0 → ⊥
