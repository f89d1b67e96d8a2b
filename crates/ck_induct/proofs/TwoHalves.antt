-- The two halves of an induction on a net, said of its design.
use Rattle.std.specs.Prelude.{◌≡◌, ℕ, ◌+◌, ◌≤◌, Bool, true, false, List, length}
use Rattle.std.proofs.Common.{arith}
use Rattle.vl_size.specs.Size.{Values}
use Rattle.vl_mean.specs.Parts.{Part}
use Rattle.vl_mean.specs.Runs.{Each, IsAssumed, IsRun, PartAssumes}
use Rattle.wn_net.specs.declared.names.Names.{Names}
use Rattle.wn_net.specs.Value.{Given}
use Rattle.wn_net.specs.Net.{Netlist, IsNet, value_at}
use Rattle.wn_net.specs.Given.{IsGiven}
use Rattle.wn_run.specs.Runs.{Choices, AreChoicesOf, inputs_at, start_of}
use Rattle.wn_run.specs.Runs as net_runs
use Rattle.wn_run.proofs.Given.{choices_run, cycles_given}
use Rattle.vl_lower_spec.specs.Evaluations.{run_of}
use Rattle.vl_lower_spec.proofs.Allowed.{allowed}
use Rattle.ck_induct.specs.Steps as steps
use Rattle.ck_induct.specs.Steps.{FailsAt}
use Rattle.ck_induct.proofs.Steps.{none_fails}
use Rattle.bm_unroll.specs.Frames.{IsChoice}
use Rattle.bm_induct.specs.Halves.{IsStepChoice}
use Rattle.bm_induct.specs.StepRuns.{IsBaseRun, IsStepRun, run_cycle, step_cycle}
use Rattle.ck_design.specs.Retirements.{values_at}
use Rattle.ck_design.proofs.Found.{IsRunOf, choices_of_run, run_of_choices}
use Rattle.ck_design.proofs.Placed.{source_bit}
use Rattle.ck_induct.specs.Halves.{AreMapsOn, LacksLast, LacksWithin}
use Rattle.ck_induct.specs.Laws.{IsStepRunOf, TellsLack, step_run_of}
use Rattle.ck_induct.proofs.Allowed.{step_of_choices, steps_allowed}
use Rattle.ck_induct.proofs.Evaluated.{steps_evaluated}
use Rattle.ck_induct.proofs.Clauses.{AreMadeBy}
use Rattle.ck_induct.proofs.Lists.{each_at, each_from, first_at, first_from}
use Rattle.ck_induct.proofs.Maps as told
use Rattle.ck_induct.proofs.StepBits.{step_bit}
use Rattle.ck_induct.proofs.StepGiven.{step_given}

module _ (ps : List Part) (net : Netlist) (names : Names) (has : Values → Bool) (bad : ℕ)
    (t : TellsLack ps net names has bad) (whole : IsNet net) where
  abbrev Assumes : Values → Type 0
  Assumes v = Each (PartAssumes v) ps

  run_given : (ch : Choices) → AreChoicesOf net ch → (j : ℕ) → IsGiven net (run_cycle net ch j)
  run_given ch of j = cycles_given net (inputs_at net ch) (start_of net ch) j whole (choices_run net ch whole of)

  -- ---- a run of the design, and the run of the net that it is

  module _ (ch : Choices) (of : AreChoicesOf net ch) (d : ℕ) (run : List Values) (is_run : IsRun ps d run)
      (is : IsRunOf net names ch d run) where
    abbrev cycle : ℕ → Given
    cycle = run_cycle net ch

    abbrev long : length run ≡ d + 1
    long = is_run.cycles

    to_within : IsBaseRun net bad d ch → LacksWithin ps has d run
    to_within b = record {
      at = b.at;
      some = b.some;
      few = b.few;
      assumed = first_from Assumes (b.at + 1) run (λ j below less.
          told.assumed ps net names has bad t cycle d run (run_given ch of) long is_run.holds is j
          (omega (arith, below, b.few)) (b.assumed j (omega (arith, below))));
      lacks = told.lacks ps net names has bad t cycle d run (run_given ch of) long is_run.holds is b.at b.few b.fails;
    }

    from_within : LacksWithin ps has d run → IsBaseRun net bad d ch
    from_within l = record {
      at = l.at;
      some = l.some;
      few = l.few;
      assumed = λ j le.
          told.met ps net names has bad t cycle d run (run_given ch of) long is_run.holds is j (omega (arith, le, l.few))
          (first_at Assumes (l.at + 1) run j (omega (arith, le)) (omega (arith, le, l.few, long)) l.assumed);
      fails = told.lacked ps net names has bad t cycle d run (run_given ch of) long is_run.holds is l.at l.few l.lacks;
    }

    -- it meets its assumptions where the net's run does, and lacks the property in the last cycle
    fails_last : net_runs.IsAssumed net (inputs_at net ch) (start_of net ch) d
        → (value_at net (run_cycle net ch d) bad ≡ 0 → ⊥) → FailsAt ps has d run
    fails_last met other = record {
      is_run = is_run;
      assumed = each_from Assumes run (λ j less.
          told.assumed ps net names has bad t cycle d run (run_given ch of) long is_run.holds is j
          (omega (arith, less, long)) (met j (omega (arith, less, long))));
      fails = told.lacks ps net names has bad t cycle d run (run_given ch of) long is_run.holds is d (omega arith) other;
    }

    base_of : (k : ℕ) → 1 ≤ d → d ≤ k → IsAssumed ps run → has (values_at run d) ≡ false → IsBaseRun net bad k ch
    base_of k some few assumed fails = record {
      at = d;
      some = some;
      few = few;
      assumed = λ j le.
          told.met ps net names has bad t cycle d run (run_given ch of) long is_run.holds is j le
          (each_at Assumes run j (omega (arith, le, long)) assumed);
      fails = told.lacked ps net names has bad t cycle d run (run_given ch of) long is_run.holds is d (omega arith) fails;
    }

    -- in each cycle the run has the property where the node is 0
    has_in : (j : ℕ) → j ≤ d → value_at net (run_cycle net ch j) bad ≡ 0 → has (values_at run j) ≡ true
    has_in j le z = told.keeps ps net names has bad t cycle d run (run_given ch of) long is_run.holds is j le z

  -- ---- the base

  pub base_made : (k : ℕ)
      → AreMadeBy net names (IsChoice net k) (IsBaseRun net bad k) (IsRun ps k) (LacksWithin ps has k)
  base_made k = record {
    IsMade = λ ch run. IsRunOf net names ch k run;
    choices = λ run one. choices_of_run ps net names k run t.lowered whole one;
    maps = λ ch of. (
      run_of net names ch k,
      allowed ps net names t.lowered whole ch of k,
      run_of_choices ps net names ch k t.lowered whole of,
    );
    bits = λ ch run of one is. source_bit ps net names t.lowered ch k run is;
    sought = λ ch run of one is.
        let to = λ (b : IsBaseRun net bad k ch). to_within ch of k run one is b in
        let from = λ (l : LacksWithin ps has k run). from_within ch of k run one is l in
        (to, from);
  }

  -- where no run of the net is such a one, none of the design fails in a cycle from 1 to k
  pub none_fail_first : (k : ℕ) → ((ch : Choices) → AreChoicesOf net ch → IsBaseRun net bad k ch → ⊥)
      → (j : ℕ) (run : List Values) → 1 ≤ j → j ≤ k → FailsAt ps has j run → ⊥
  none_fail_first k none j run some few f =
      let e = choices_of_run ps net names j run t.lowered whole f.is_run in
      none e.0 e.1 (base_of e.0 e.1 j run f.is_run e.2 k some few f.assumed f.fails)

  -- the run of the design with these choices fails in a cycle
  pub run_fails : (ch : Choices) → AreChoicesOf net ch → (j : ℕ)
      → net_runs.IsAssumed net (inputs_at net ch) (start_of net ch) j
      → (value_at net (run_cycle net ch j) bad ≡ 0 → ⊥) → FailsAt ps has j (run_of net names ch j)
  run_fails ch of j met other =
      fails_last ch of j (run_of net names ch j) (allowed ps net names t.lowered whole ch of j)
      (run_of_choices ps net names ch j t.lowered whole of) met other

  -- and has the property in those in which the node is 0
  pub run_has : (ch : Choices) → AreChoicesOf net ch → (d j : ℕ) → j ≤ d → value_at net (run_cycle net ch j) bad ≡ 0
      → has (values_at (run_of net names ch d) j) ≡ true
  run_has ch of d j le z =
      has_in ch of d (run_of net names ch d) (allowed ps net names t.lowered whole ch of d)
      (run_of_choices ps net names ch d t.lowered whole of) j le z

  -- ---- maps from any one on, and the step run of the net that they are

  module _ (ch : Choices) (of : AreChoicesOf net ch) (k : ℕ) (run : List Values) (are : AreMapsOn ps k run)
      (is : IsStepRunOf net names ch k run) where
    abbrev steps_cycle : ℕ → Given
    steps_cycle = step_cycle net ch

    step_numbers : (j : ℕ) → IsGiven net (step_cycle net ch j)
    step_numbers j = step_given net ch j whole of

    to_last : IsStepRun net bad k ch → LacksLast ps has k run
    to_last s = record {
      assumed = each_from Assumes run (λ j less.
          told.assumed ps net names has bad t steps_cycle k run step_numbers are.cycles are.holds is j
          (omega (arith, less, are.cycles)) (s.assumed j (omega (arith, less, are.cycles))));
      before = λ j less.
          told.keeps ps net names has bad t steps_cycle k run step_numbers are.cycles are.holds is j
          (omega (arith, less)) (s.before j less);
      lacks = told.lacks ps net names has bad t steps_cycle k run step_numbers are.cycles are.holds is k (omega arith)
          s.last;
    }

    from_last : LacksLast ps has k run → IsStepRun net bad k ch
    from_last l = record {
      assumed = λ j le.
          told.met ps net names has bad t steps_cycle k run step_numbers are.cycles are.holds is j le
          (each_at Assumes run j (omega (arith, le, are.cycles)) l.assumed);
      before = λ j less.
          told.kept ps net names has bad t steps_cycle k run step_numbers are.cycles are.holds is j
          (omega (arith, less)) (l.before j less);
      last = told.lacked ps net names has bad t steps_cycle k run step_numbers are.cycles are.holds is k (omega arith)
          l.lacks;
    }

  -- ---- the step

  pub step_made : (k : ℕ)
      → AreMadeBy net names (IsStepChoice net k) (IsStepRun net bad k) (AreMapsOn ps k) (LacksLast ps has k)
  step_made k = record {
    IsMade = λ ch run. IsStepRunOf net names ch k run;
    choices = λ run one. steps_evaluated ps net names k run t.lowered whole one;
    maps = λ ch of. (
      step_run_of net names ch k,
      steps_allowed ps net names ch k t.lowered whole of,
      step_of_choices ps net names ch k t.lowered whole of,
    );
    bits = λ ch run of one is. step_bit ps net names t.lowered ch k run is;
    sought = λ ch run of one is.
        let to = λ (s : IsStepRun net bad k ch). to_last ch of k run one is s in
        let from = λ (l : LacksLast ps has k run). from_last ch of k run one is l in
        (to, from);
  }

  -- where no step run of the net is bad, none of the design is there
  pub none_step : (k : ℕ) → ((ch : Choices) → AreChoicesOf net ch → IsStepRun net bad k ch → ⊥)
      → (run : List Values) → steps.IsStepRun ps has k run → ⊥
  none_step k none run s =
      let are : AreMapsOn ps k run = record {
        cycles = s.cycles;
        holds = s.holds;
        steps = s.steps;
        no_reset = s.no_reset;
        once = s.once;
      } in
      let e = steps_evaluated ps net names k run t.lowered whole are in
      none e.0 e.1
      (from_last e.0 e.1 k run are e.2 (record { assumed = s.assumed; before = s.before; lacks = s.fails }))

  -- the maps of choices that are those of a step run are one
  pub step_lacks : (ch : Choices) → AreChoicesOf net ch → (k : ℕ) → IsStepRun net bad k ch
      → steps.IsStepRun ps has k (step_run_of net names ch k)
  step_lacks ch of k s =
      let run = step_run_of net names ch k in
      let are = steps_allowed ps net names ch k t.lowered whole of in
      let l = to_last ch of k run are (step_of_choices ps net names ch k t.lowered whole of) s in
      record {
        cycles = are.cycles;
        holds = are.holds;
        steps = are.steps;
        no_reset = are.no_reset;
        once = are.once;
        assumed = l.assumed;
        before = l.before;
        fails = l.lacks;
      }

  -- ---- both

  pub never_fails : (k : ℕ) → ((ch : Choices) → AreChoicesOf net ch → IsBaseRun net bad k ch → ⊥)
      → ((ch : Choices) → AreChoicesOf net ch → IsStepRun net bad k ch → ⊥)
      → (j : ℕ) (run : List Values) → 1 ≤ j → IsRun ps j run → IsAssumed ps run → has (values_at run j) ≡ true
  never_fails k base step j run some is_run assumed =
      none_fails ps has k (λ i r one few f. none_fail_first k base i r one few f) (none_step k step) j run some is_run
      assumed
