-- Between functions: The traces that witnesses of the two halves of an induction tell (rule of this project).
use Rattle.std.specs.Prelude.{◌≡◌, ℕ, ◌<◌, ◌≤◌, false, None, List, [], ◌∷◌, map, slice_index, slice_index_or}
use Rattle.fv_text.specs.declared.trace.Trace.{Trace}
use Rattle.wn_net.specs.declared.names.Names.{Names}
use Rattle.wn_net.specs.declared.names.NetName.{NetName}
use Rattle.wn_net.specs.declared.names.Place.TheVariants as place
use Rattle.wn_net.specs.Net.{Netlist, value_at}
use Rattle.wn_run.specs.Runs.{Choices, AreChoicesOf, IsAssumed, inputs_at, start_of}
use Rattle.tr_replay.specs.Traces.{trace_of}
use Rattle.bm_unroll.specs.Frames.{chosen}
use Rattle.bm_induct.specs.StepRuns.{run_cycle}
use Rattle.bm_induct.specs.Steps.{step_trace_of}
use Rattle.bm_decide.specs.declared.verdict.Witness.{Witness}
use Rattle.bm_decide.specs.Chosen.{numbers_read}

-- names of which there is one alone, that of a node of one bit
abbrev pub name_of : ℕ → NetName
name_of id = record { text = []; width = 1; place = place.Node id; output = false; words = None }

abbrev pub names_of : ℕ → Names
names_of id = record { list = name_of id ∷ []; inputs = []; regs = []; mems = [] }

-- the first number of a row
abbrev pub first_in : List (List ℕ) → ℕ → ℕ
first_in rows i = slice_index (slice_index_or rows i []) 0

-- the first cycle from 1 to k in which a number is other than 0, if it is in one
pub record IsFirstOther (number : ℕ → ℕ) (k j : ℕ) : Type 0 where
  pub some : 1 ≤ j
  pub few : j ≤ k
  pub before : (i : ℕ) → 1 ≤ i → i < j → number i ≡ 0
  pub other : j < k → number j ≡ 0 → ⊥

-- The trace is that of a run up to a cycle from 1 to k: the run meets the assumptions up to it, and the bad node is
-- other than 0 there, and 0 in the cycles from 1 on before it.
pub record IsFailing (net : Netlist) (names : Names) (bad k : ℕ) (trace : Trace) : Type 0 where
  pub ch : Choices
  pub of_net : AreChoicesOf net ch
  pub cycle : ℕ
  pub some : 1 ≤ cycle
  pub few : cycle ≤ k
  pub assumed : IsAssumed net (inputs_at net ch) (start_of net ch) cycle
  pub before : (i : ℕ) → 1 ≤ i → i < cycle → value_at net (run_cycle net ch i) bad ≡ 0
  pub fails : value_at net (run_cycle net ch cycle) bad ≡ 0 → ⊥
  pub shown : trace ≡ trace_of net names ch cycle

-- the trace is that of the step run with the numbers of a witness
pub record ShowsStepRun (net : Netlist) (names : Names) (k : ℕ) (x : Witness) (trace : Trace) : Type 0 where
  pub ch : Choices
  pub of_net : AreChoicesOf net ch
  pub same : map (chosen ch) x.bits.sources ≡ numbers_read x
  pub shown : trace ≡ step_trace_of net names ch k
