-- The traces that witnesses of the two halves tell are those of the design, and have dumps.
use Rattle.std.specs.Prelude.{ℕ, Bool, List}
use Rattle.std.proofs.Common.{sym, ◌∙◌, arith, subst}
use Rattle.fv_text.specs.declared.trace.Trace.{Trace}
use Rattle.vl_size.specs.Size.{Values}
use Rattle.vl_mean.specs.Parts.{Part}
use Rattle.wn_net.specs.declared.names.Names.{Names}
use Rattle.wn_net.specs.Net.{Netlist, IsNet}
use Rattle.wn_net.specs.Names.{AreNamesOf}
use Rattle.vl_lower_spec.specs.Evaluations.{run_of}
use Rattle.bm_induct.specs.Halves.{IsStepChoice}
use Rattle.bm_induct.specs.StepRuns.{IsStepRun}
use Rattle.bm_decide.specs.declared.verdict.Witness.{Witness}
use Rattle.ck_design.specs.Traces.{HaveOwnNames}
use Rattle.ck_design.proofs.Dumps.{dumps}
use Rattle.ck_design.proofs.TracesWhole.{traces}
use Rattle.vcd_dump.specs.Vcd.{IsTrace}
use Rattle.ck_induct.specs.Halves.{ShowsFailing, ShowsStep}
use Rattle.ck_induct.specs.Laws.{TellsLack, TracesAreTheDesigns, TracesHaveDumps, step_run_of}
use Rattle.ck_induct.specs.Traces.{IsFailing, ShowsStepRun}
use Rattle.ck_induct.specs.Verdicts.{IsOnce}
use Rattle.ck_induct.proofs.TwoHalves.{run_fails, run_has, step_lacks}
use Rattle.ck_induct.proofs.Rows.{step_dumps, step_traces}

-- ---- of the design

module _ (ps : List Part) (net : Netlist) (names : Names) (has : Values → Bool) (bad k : ℕ)
    (t : TellsLack ps net names has bad) (whole : IsNet net) (own : HaveOwnNames ps) (trace : Trace) where
  failing : IsFailing net names bad k trace → ShowsFailing ps has k trace
  failing f = record {
    cycle = f.cycle;
    some = f.some;
    few = f.few;
    run = run_of net names f.ch f.cycle;
    fails = run_fails ps net names has bad t whole f.ch f.of_net f.cycle f.assumed f.fails;
    before = λ i some less.
        run_has ps net names has bad t whole f.ch f.of_net f.cycle i (omega (arith, less)) (f.before i some less);
    shown = f.shown ∙ traces ps net names f.ch f.cycle t.lowered whole own f.of_net;
  }

  stepping : (x : Witness) → IsOnce net (IsStepChoice net k) (IsStepRun net bad k) x → ShowsStepRun net names k x trace
      → ShowsStep ps has k trace
  stepping x once s = record {
    run = step_run_of net names s.ch k;
    step = step_lacks ps net names has bad t whole s.ch s.of_net k (once.bad s.ch s.of_net s.same);
    shown = s.shown ∙ step_traces ps net names s.ch t.lowered whole own s.of_net k;
  }

pub traced : TracesAreTheDesigns
traced ps net names has bad k x trace t whole own =
    (failing ps net names has bad k t whole own trace, stepping ps net names has bad k t whole own trace x)

-- ---- their dumps

module _ (net : Netlist) (names : Names) (bad k : ℕ) (x : Witness) (trace : Trace) (whole : IsNet net)
    (named : AreNamesOf net names) where
  failing_dumps : IsFailing net names bad k trace → IsTrace trace
  failing_dumps f = subst (λ (t : Trace). IsTrace t) (sym f.shown) (dumps net names f.ch f.cycle whole named f.of_net)

  stepping_dumps : ShowsStepRun net names k x trace → IsTrace trace
  stepping_dumps s = subst (λ (t : Trace). IsTrace t) (sym s.shown) (step_dumps net names s.ch k whole named s.of_net)

pub dumped : TracesHaveDumps
dumped net names bad k x trace whole named =
    (failing_dumps net names bad k x trace whole named, stepping_dumps net names bad k x trace whole named)
