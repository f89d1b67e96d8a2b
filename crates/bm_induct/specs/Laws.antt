-- Meaning: What the two halves of an induction say of the runs of a net. Rule of this project.
use Rattle.std.specs.Prelude.{◌≡◌, ℕ, ◌+◌, ◌≤◌}
use Rattle.wn_net.specs.Net.{Netlist, IsNet, value_at}
use Rattle.wn_run.specs.Runs.{Choices, AreChoicesOf, IsAssumed, inputs_at, start_of}
use Rattle.bm_induct.specs.StepRuns.{IsBaseRun, IsStepRun, run_cycle, step_cycle}

-- the choices of a step run whose cycles are those of a run from one on
pub record IsPart (net : Netlist) (i : ℕ) (ch part : Choices) : Type 0 where
  pub of_net : AreChoicesOf net part
  pub cycles : (j : ℕ) → step_cycle net part j ≡ run_cycle net ch (i + j)

-- from each cycle but the first, in which the reset is 1
abbrev pub PartsAreStepRuns : Type 0
PartsAreStepRuns =
    (net : Netlist) (i : ℕ) (ch : Choices) → IsNet net → AreChoicesOf net ch → 1 ≤ i
    → (part : Choices) × IsPart net i ch part

-- Where there is neither such a run up to k nor a step run of length k, the bad node is 0 in each cycle from 1 on of
-- each run that meets the assumptions up to it.
abbrev pub NoneOfAnyLength : Type 0
NoneOfAnyLength =
    (net : Netlist) (bad k : ℕ) → IsNet net
    → ((ch : Choices) → AreChoicesOf net ch → IsBaseRun net bad k ch → ⊥)
    → ((ch : Choices) → AreChoicesOf net ch → IsStepRun net bad k ch → ⊥)
    → (ch : Choices) (j : ℕ) → AreChoicesOf net ch → 1 ≤ j
    → IsAssumed net (inputs_at net ch) (start_of net ch) j → value_at net (run_cycle net ch j) bad ≡ 0
