-- What the two halves of an induction on a net come to, said of its design.
use Rattle.std.specs.Prelude.{◌≡◌, ℕ, ◌+◌, ◌≤◌, Bool, true, false, List, Result, IfOk, length, map, sum}
use Rattle.std.proofs.Common.{ap, refl, sym, ◌∙◌, arith, subst}
use Rattle.fv_text.specs.declared.memory.Memory.{Memory}
use Rattle.rv_table.specs.declared.retire.Opts.{Opts}
use Rattle.vl_size.specs.Size.{Values}
use Rattle.vl_mean.specs.Parts.{Part}
use Rattle.vl_mean.specs.Runs.{IsRun}
use Rattle.cnf_form.specs.Cnf.{Cnf}
use Rattle.lrat_check.specs.declared.step.Step.{Step}
use Rattle.wn_net.specs.declared.names.Names.{Names}
use Rattle.wn_net.specs.Changes.{AddsNodes}
use Rattle.wn_net.specs.Net.{Netlist, IsNet, IsNodeOf}
use Rattle.rvfi_port.specs.declared.port.Port.{Port}
use Rattle.rvfi_port.specs.declared.port.Wants.{Wants}
use Rattle.ck_cfg.specs.declared.check.Check.{Check}
use Rattle.ck_gen.specs.Monitors.{IsMonitorOfEachCycle, NeedsNoRegisters, is_of_one_cycle}
use Rattle.wn_run.specs.Runs.{Choices}
use Rattle.bm_unroll.specs.declared.frames.Source.{Source}
use Rattle.bm_unroll.specs.Frames.{IsChoice}
use Rattle.bm_induct.specs.Halves.{IsStepChoice, IsWithinBy}
use Rattle.bm_induct.specs.StepRuns.{IsBaseRun, IsStepRun}
use Rattle.bm_decide.specs.declared.verdict.Certificate.{Certificate}
use Rattle.bm_decide.specs.declared.verdict.Witness.{Witness}
use Rattle.ck_design.specs.Loaded.{IsLoaded}
use Rattle.ck_design.specs.Notes.{choice_notes}
use Rattle.ck_design.specs.Traces.{HaveOwnNames}
use Rattle.ck_induct.specs.Halves.{AreClausesOf, AreMapsOn, LacksLast, LacksWithin}
use Rattle.ck_induct.specs.Laws.{TellsLack}
use Rattle.ck_induct.specs.OneCycle.{holds_in_map}
use Rattle.ck_induct.specs.Verdicts as verdict
use Rattle.ck_induct.proofs.Both.{clauses_of_halves, none_fails_ever, none_of_halves}
use Rattle.ck_induct.proofs.Traced.{traced}
use Rattle.ck_induct.proofs.Telling.{monitors_tell}
use Rattle.vcd_dump.specs.Vcd.{vcd_text}
use Rattle.rvf_judge.specs.declared.judged.CertificateTexts.{CertificateTexts}
use Rattle.rvf_judge.specs.declared.induction.Induction.{Induction}
use Rattle.rvf_judge.specs.declared.induction.Induction.TheVariants as induction
use Rattle.rvf_judge.specs.Inducted.{IsExhausted, IsFailing, IsInducted, IsInductedBy, IsInductedOn, IsOpen, IsProved}
use Rattle.rvf_judge.specs.Inducted.{IsRefuted, IsSpentStep, NoneFailsFirst}
use Rattle.rvf_judge.specs.InductParts.{DumpsFailing, DumpsStepping}
use Rattle.rvf_judge.specs.JudgeParts.{AreReadBack}
use Rattle.rvf_judge.specs.Judged.{AreTexts}
use Rattle.rvf_judge.proofs.Told.{both_said}

-- ---- one half

module _ (names : Names) (IsOne IsSought : List Values → Type 0) (c : Certificate) (texts : CertificateTexts)
    (clauses : AreClausesOf IsOne IsSought (choice_notes names c.bits) c.formula)
    (written : AreTexts (choice_notes names c.bits) c.formula c.steps texts)
    (back : AreReadBack c.formula c.steps texts) where
  refuted : (net : Netlist) (IsSource : Source → Type 0) (IsBad : Choices → Type 0)
      (more : ℕ → Cnf → List Step → Type 0) (budget : ℕ) → verdict.IsNever net IsSource IsBad (more budget) c
      → IsRefuted IsOne IsSought more budget texts
  refuted net IsSource IsBad more budget h = record {
    notes = choice_notes names c.bits;
    formula = c.formula;
    steps = c.steps;
    written = written;
    clauses = clauses;
    refuted = h.refuted;
    unsatisfiable = h.unsatisfiable;
    known = h.known;
    read_back = both_said c.formula c.steps texts h.short back;
  }

  exhausted : (net : Netlist) (IsSource : Source → Type 0) (IsBad : Choices → Type 0) (budget : ℕ)
      → verdict.IsSpent net IsSource IsBad budget c → IsExhausted IsOne IsSought budget texts
  exhausted net IsSource IsBad budget h = record {
    notes = choice_notes names c.bits;
    formula = c.formula;
    steps = c.steps;
    written = written;
    clauses = clauses;
    valid = h.valid;
    resolved = h.resolved;
    count = h.count;
    few = h.few;
    read_back = both_said c.formula c.steps texts h.short back;
  }

-- ---- both halves

module _ (ps : List Part) (net : Netlist) (names : Names) (has : Values → Bool) (bad k : ℕ)
    (t : TellsLack ps net names has bad) (whole : IsNet net) where
  base_clauses : (c : Certificate) → verdict.AreBitsBy net (IsChoice net k) c.bits
      → verdict.AreOfChoices net (IsChoice net k) (IsBaseRun net bad k) c
      → AreClausesOf (IsRun ps k) (LacksWithin ps has k) (choice_notes names c.bits) c.formula
  base_clauses c bits tight = (clauses_of_halves ps net names has bad k c t whole).0 bits tight

  step_clauses : (c : Certificate) → verdict.AreBitsBy net (IsStepChoice net k) c.bits
      → verdict.AreOfChoices net (IsStepChoice net k) (IsStepRun net bad k) c
      → AreClausesOf (AreMapsOn ps k) (LacksLast ps has k) (choice_notes names c.bits) c.formula
  step_clauses c bits tight = (clauses_of_halves ps net names has bad k c t whole).1 bits tight

  pub failing : HaveOwnNames ps → (x : Witness) (dump : List ℕ) → DumpsFailing net names bad k dump
      → IsFailing ps has k dump
  failing own x dump d =
      let f = (traced ps net names has bad k x d.trace t whole own).0 d.failing in record {
        cycle = f.cycle;
        some = f.some;
        few = f.few;
        run = f.run;
        fails = f.fails;
        before = f.before;
        dump_is = d.dump_is ∙ ap vcd_text f.shown;
      }

  pub spent_base : (budget : ℕ) (c : Certificate) (texts : CertificateTexts)
      → verdict.IsSpent net (IsChoice net k) (IsBaseRun net bad k) budget c
      → AreTexts (choice_notes names c.bits) c.formula c.steps texts → AreReadBack c.formula c.steps texts
      → IsExhausted (IsRun ps k) (LacksWithin ps has k) budget texts
  spent_base budget c texts h written back =
      exhausted names (IsRun ps k) (LacksWithin ps has k) c texts (base_clauses c h.bits h.tight) written back net
      (IsChoice net k) (IsBaseRun net bad k) budget h

  module _ (more : ℕ → Cnf → List Step → Type 0) (budget : ℕ) (base : Certificate)
      (never : verdict.IsNever net (IsChoice net k) (IsBaseRun net bad k) (more budget) base) where
    none_first : NoneFailsFirst ps has k
    none_first = (none_of_halves ps net names has bad k t whole).0 never.never

    pub opened : HaveOwnNames ps → (x : Witness) (dump : List ℕ)
        → verdict.IsOnce net (IsStepChoice net k) (IsStepRun net bad k) x → DumpsStepping net names k x dump
        → IsOpen ps has k dump
    opened own x dump once d =
        let s = (traced ps net names has bad k x d.trace t whole own).1 once d.shows in record {
          base = none_first;
          run = s.run;
          step = s.step;
          dump_is = d.dump_is ∙ ap vcd_text s.shown;
        }

    pub proved : (first second : CertificateTexts) (step : Certificate)
        → verdict.IsNever net (IsStepChoice net k) (IsStepRun net bad k) (more budget) step
        → AreTexts (choice_notes names base.bits) base.formula base.steps first
        → AreReadBack base.formula base.steps first
        → AreTexts (choice_notes names step.bits) step.formula step.steps second
        → AreReadBack step.formula step.steps second → IsProved ps has k more budget first second
    proved first second step none first_written first_back second_written second_back = record {
      base_none = none_first;
      base_refuted = refuted names (IsRun ps k) (LacksWithin ps has k) base first
          (base_clauses base never.bits never.tight) first_written first_back net (IsChoice net k)
          (IsBaseRun net bad k) more budget never;
      step_none = (none_of_halves ps net names has bad k t whole).1 none.never;
      step_refuted = refuted names (AreMapsOn ps k) (LacksLast ps has k) step second
          (step_clauses step none.bits none.tight) second_written second_back net (IsStepChoice net k)
          (IsStepRun net bad k) more budget none;
      always = none_fails_ever ps net names has bad k t whole never.never none.never;
    }

    pub spent_step : (step : Certificate) (texts : CertificateTexts)
        → verdict.IsSpent net (IsStepChoice net k) (IsStepRun net bad k) budget step
        → AreTexts (choice_notes names step.bits) step.formula step.steps texts
        → AreReadBack step.formula step.steps texts → IsSpentStep ps has k budget texts
    spent_step step texts h written back = record {
      base = none_first;
      step = exhausted names (AreMapsOn ps k) (LacksLast ps has k) step texts (step_clauses step h.bits h.tight)
          written back net (IsStepChoice net k) (IsStepRun net bad k) budget h;
    }

-- ---- a check

-- a monitor that needs no registers leaves room for those of both halves
pub room_left : (old new : Netlist) → AddsNodes old new → length old.inputs ≤ 1000000
    → length old.regs + sum (map (λ m. m.words) old.mems) ≤ 50000000 → IsWithinBy 3 new
room_left old new adds inputs state = (
  subst (λ xs. length xs ≤ 1000000) (sym adds.inputs) inputs,
  more (subst (λ ms. length new.regs + sum (map (λ m. m.words) ms) ≤ 50000000) (sym adds.mems)
      (subst (λ rs. length rs + sum (map (λ m. m.words) old.mems) ≤ 50000000) (sym adds.regs) state)),
)
  where
    more : length new.regs + sum (map (λ m. m.words) new.mems) ≤ 50000000
        → length new.regs + sum (map (λ m. m.words) new.mems) + 3 ≤ 100000000
    more h = omega (arith, h)

module _ (check : Check) (one : is_of_one_cycle check.kind ≡ true) (old mid new : Netlist) (copied : mid ≡ old)
    (port : Port) (opts : Opts) (id : ℕ)
    (needs : NeedsNoRegisters (is_of_one_cycle check.kind) mid new port check opts id) where
  pub of_each : AddsNodes old new × IsMonitorOfEachCycle new port check opts id
  of_each =
      subst (λ (n : Netlist). AddsNodes n new × IsMonitorOfEachCycle new port check opts id) copied
      (subst (λ b. NeedsNoRegisters b mid new port check opts id) one needs)

  -- what its monitor comes to is what the check comes to
  pub induct_answer : (more : ℕ → Cnf → List Step → Type 0) (names : Names) (k budget : ℕ) (r : Result Induction Memory)
      → IsNet old → IsNet new → IsNodeOf new 1 id
      → ((ps : List Part) (has : Values → Bool) → TellsLack ps new names has id → HaveOwnNames ps
      → IfOk r (IsInductedOn ps has k more budget))
      → (ps : List Part) (channels : ℕ) (wants : Wants) → IsLoaded ps old names channels wants port → HaveOwnNames ps
      → IfOk r (IsInducted more ps channels wants check opts k budget)
  induct_answer more names k budget r whole whole_new node inducts ps channels wants loaded own =
      let has : Values → Bool = holds_in_map channels wants check opts in
      let tells : TellsLack ps new names has id =
      monitors_tell ps old new names channels wants port check opts id loaded whole whole_new of_each.0 one node of_each.1
      in
      subst (λ b. IfOk r (λ m. IsInductedBy b more ps channels wants check opts k budget m)) (sym one)
      (inducts ps has tells own)

-- one that looks at more than one cycle is skipped
pub induct_skipped : (check : Check) → is_of_one_cycle check.kind ≡ false → (more : ℕ → Cnf → List Step → Type 0)
    (ps : List Part) (channels : ℕ) (wants : Wants) (opts : Opts) (k budget : ℕ)
    → IsInducted more ps channels wants check opts k budget induction.Skipped
induct_skipped check none more ps channels wants opts k budget =
    subst (λ b. IsInductedBy b more ps channels wants check opts k budget induction.Skipped) (sym none) refl
