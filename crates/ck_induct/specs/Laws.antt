-- Between functions: When a node of a net tells of a property of a design's maps, and what the two halves of an
-- induction on the net then say of the design (rule of this project).
use Rattle.std.specs.Prelude.{◌≡◌, ℕ, suc, ◌≤◌, not, Bool, true, List}
use Rattle.fv_text.specs.declared.trace.Trace.{Trace}
use Rattle.fv_bits.specs.Bits.{bit}
use Rattle.rv_table.specs.declared.retire.Opts.{Opts}
use Rattle.vl_size.specs.Size.{Values}
use Rattle.vl_mean.specs.Parts.{Part}
use Rattle.vl_mean.specs.Runs.{Agrees, IsAssumed, IsRun}
use Rattle.ck_induct.specs.Steps as steps
use Rattle.ck_induct.specs.Steps.{FailsAt}
use Rattle.wn_net.specs.declared.names.Names.{Names}
use Rattle.wn_net.specs.Value.{Given}
use Rattle.wn_net.specs.Net.{Netlist, IsNet, IsNodeOf, value_at}
use Rattle.wn_net.specs.Given.{IsGiven}
use Rattle.wn_net.specs.Names.{AreNamesOf}
use Rattle.wn_net.specs.Changes.{AddsNodes}
use Rattle.wn_run.specs.Runs.{Choices, AreChoicesOf}
use Rattle.vl_lower_spec.specs.Maps.{given_of, map_of}
use Rattle.vl_lower_spec.specs.Evaluations.{IsLowered, maps_from}
use Rattle.rvfi_port.specs.declared.port.Port.{Port}
use Rattle.rvfi_port.specs.declared.port.Wants.{Wants}
use Rattle.ck_cfg.specs.declared.check.Check.{Check}
use Rattle.ck_gen.specs.Monitors.{IsMonitorOfEachCycle, is_of_one_cycle}
use Rattle.bm_unroll.specs.Frames.{IsChoice}
use Rattle.bm_induct.specs.Halves.{IsStepChoice}
use Rattle.bm_induct.specs.StepRuns.{IsBaseRun, IsStepRun, step_cycle}
use Rattle.bm_decide.specs.declared.verdict.Certificate.{Certificate}
use Rattle.bm_decide.specs.declared.verdict.Witness.{Witness}
use Rattle.ck_design.specs.Loaded.{IsLoaded}
use Rattle.ck_design.specs.Notes.{choice_notes}
use Rattle.ck_design.specs.Retirements.{values_at}
use Rattle.ck_design.specs.Traces.{HaveOwnNames}
use Rattle.vcd_dump.specs.Vcd.{IsTrace}
use Rattle.ck_induct.specs.OneCycle.{holds_in_map}
use Rattle.ck_induct.specs.Halves.{AreClausesOf, AreMapsOn, LacksLast, LacksWithin, ShowsFailing, ShowsStep}
use Rattle.ck_induct.specs.Traces.{IsFailing, ShowsStepRun}
use Rattle.ck_induct.specs.Verdicts.{AreBitsBy, AreOfChoices, IsOnce}

-- ---- a node that tells of maps

-- In each evaluation of the net of a design the node is 1 exactly where the map lacks a property, and maps that agree
-- on all declared names have the property alike.
pub record TellsLack (ps : List Part) (net : Netlist) (names : Names) (has : Values → Bool) (bad : ℕ) : Type 0 where
  pub lowered : IsLowered ps net names
  pub node : IsNodeOf net 1 bad
  pub alike : (u v : Values) → Agrees ps u v → has u ≡ has v
  pub tells : (g : Given) → IsGiven net g → value_at net g bad ≡ bit (not (has (map_of net names g)))

-- the monitor of a check of one cycle tells of the check's property
abbrev pub MonitorsTellLack : Type 0
MonitorsTellLack =
    (ps : List Part) (old new : Netlist) (names : Names) (channels : ℕ) (wants : Wants) (port : Port) (check : Check)
    (opts : Opts) (id : ℕ) → IsLoaded ps old names channels wants port → IsNet old → IsNet new → AddsNodes old new
    → is_of_one_cycle check.kind ≡ true → IsNodeOf new 1 id → IsMonitorOfEachCycle new port check opts id
    → TellsLack ps new names (holds_in_map channels wants check opts) id

-- ---- step runs

-- the maps of cycles 0 to k of the net's step run with these choices
abbrev pub step_run_of : Netlist → Names → Choices → ℕ → List Values
step_run_of net names ch k = maps_from net names (step_cycle net ch) 0 (suc k)

-- they are maps of the design from any one on
abbrev pub StepRunsAreAllowed : Type 0
StepRunsAreAllowed =
    (ps : List Part) (net : Netlist) (names : Names) (ch : Choices) (k : ℕ) → IsLowered ps net names → IsNet net
    → AreChoicesOf net ch → AreMapsOn ps k (step_run_of net names ch k)

-- in each cycle up to k the net's step run with these choices has the numbers of a map
abbrev pub IsStepRunOf : Netlist → Names → Choices → ℕ → List Values → Type 0
IsStepRunOf net names ch k run = (j : ℕ) → j ≤ k → step_cycle net ch j ≡ given_of names (values_at run j)

-- and maps of the design from any one on are those of the net for some choices
abbrev pub StepRunsAreEvaluated : Type 0
StepRunsAreEvaluated =
    (ps : List Part) (net : Netlist) (names : Names) (k : ℕ) (run : List Values) → IsLowered ps net names → IsNet net
    → AreMapsOn ps k run → (ch : Choices) × AreChoicesOf net ch × IsStepRunOf net names ch k run

-- ---- the two halves

-- clauses of the choices of the base are those of the design's runs up to k, and those of the step are those of k + 1
-- maps from any one on, by the notes of their choices
abbrev pub HalvesHaveTheirClauses : Type 0
HalvesHaveTheirClauses =
    (ps : List Part) (net : Netlist) (names : Names) (has : Values → Bool) (bad k : ℕ) (c : Certificate)
    → TellsLack ps net names has bad → IsNet net
    → (AreBitsBy net (IsChoice net k) c.bits → AreOfChoices net (IsChoice net k) (IsBaseRun net bad k) c
    → AreClausesOf (IsRun ps k) (LacksWithin ps has k) (choice_notes names c.bits) c.formula)
    × (AreBitsBy net (IsStepChoice net k) c.bits → AreOfChoices net (IsStepChoice net k) (IsStepRun net bad k) c
    → AreClausesOf (AreMapsOn ps k) (LacksLast ps has k) (choice_notes names c.bits) c.formula)

-- where no choices are bad in the base, no run up to a cycle from 1 to k that meets its assumptions lacks the property
-- in it; and where none are in the step, there is no step run of length k
abbrev pub RefutedHalvesHaveNone : Type 0
RefutedHalvesHaveNone =
    (ps : List Part) (net : Netlist) (names : Names) (has : Values → Bool) (bad k : ℕ)
    → TellsLack ps net names has bad → IsNet net
    → (((ch : Choices) → AreChoicesOf net ch → IsBaseRun net bad k ch → ⊥)
    → (j : ℕ) (run : List Values) → 1 ≤ j → j ≤ k → FailsAt ps has j run → ⊥)
    × (((ch : Choices) → AreChoicesOf net ch → IsStepRun net bad k ch → ⊥)
    → (run : List Values) → steps.IsStepRun ps has k run → ⊥)

-- where no choices are bad in either half, each run of the design from cycle 1 on that meets its assumptions has the
-- property in its last cycle, however long it is
abbrev pub NoneOfTheDesignFails : Type 0
NoneOfTheDesignFails =
    (ps : List Part) (net : Netlist) (names : Names) (has : Values → Bool) (bad k : ℕ)
    → TellsLack ps net names has bad → IsNet net
    → ((ch : Choices) → AreChoicesOf net ch → IsBaseRun net bad k ch → ⊥)
    → ((ch : Choices) → AreChoicesOf net ch → IsStepRun net bad k ch → ⊥)
    → (j : ℕ) (run : List Values) → 1 ≤ j → IsRun ps j run → IsAssumed ps run → has (values_at run j) ≡ true

-- ---- traces

-- the trace that a witness of the base tells is that of a run of the design, and so is that of the step
abbrev pub TracesAreTheDesigns : Type 0
TracesAreTheDesigns =
    (ps : List Part) (net : Netlist) (names : Names) (has : Values → Bool) (bad k : ℕ) (x : Witness) (trace : Trace)
    → TellsLack ps net names has bad → IsNet net → HaveOwnNames ps
    → (IsFailing net names bad k trace → ShowsFailing ps has k trace)
    × (IsOnce net (IsStepChoice net k) (IsStepRun net bad k) x → ShowsStepRun net names k x trace
    → ShowsStep ps has k trace)

-- and both have dumps
abbrev pub TracesHaveDumps : Type 0
TracesHaveDumps =
    (net : Netlist) (names : Names) (bad k : ℕ) (x : Witness) (trace : Trace) → IsNet net → AreNamesOf net names
    → (IsFailing net names bad k trace → IsTrace trace) × (ShowsStepRun net names k x trace → IsTrace trace)
