-- What verdicts on a net come to, said of its design.
use Rattle.std.specs.Prelude.{ℕ, ◌<◌, ◌≤◌, ◌^◌, List, length}
use Rattle.cnf_form.specs.Cnf.{Cnf}
use Rattle.lrat_check.specs.declared.step.Step.{Step}
use Rattle.lrat_check.specs.Texts.{AreShort}
use Rattle.lrat_texts.proofs.Formulas.{formula_law}
use Rattle.lrat_texts.proofs.Steps.{steps_law}
use Rattle.std.proofs.Common.{ap, sym, ◌∙◌, arith, subst, lit≤}
use Rattle.fv_text.specs.declared.trace.Trace.{Trace}
use Rattle.rv_table.specs.declared.retire.Opts.{Opts}
use Rattle.vl_mean.specs.Parts.{Part}
use Rattle.vl_mean_flat.specs.Flattened.{decls_of}
use Rattle.wn_net.specs.declared.names.Names.{Names}
use Rattle.wn_net.specs.Net.{Netlist, IsNet}
use Rattle.wn_net.specs.Names.{AreNamesOf}
use Rattle.rvfi_port.specs.declared.port.Port.{Port}
use Rattle.rvfi_port.specs.declared.port.Wants.{Wants}
use Rattle.ck_ask.specs.Asked.{IsQuestion}
use Rattle.ck_ask.specs.Questions.{question_channel, question_cycle}
use Rattle.ck_ask.specs.declared.question.Question.{Question}
use Rattle.ck_ask.proofs.Lawful.{channel_within, in_order}
use Rattle.bm_decide.specs.declared.verdict.Certificate.{Certificate}
use Rattle.bm_decide.specs.Verdicts as verdict
use Rattle.bm_decide.specs.Verdicts.{AreBitsOf, AreOfRuns, Gives, IsOnce, fields_in}
use Rattle.bm_decide.specs.declared.verdict.Witness.{Witness}
use Rattle.bm_decide.specs.Chosen.{ShowsWitness}
use Rattle.ck_design.specs.Loaded.{IsLoaded}
use Rattle.ck_design.proofs.Found.{designs, nets}
use Rattle.ck_design.specs.Notes.{notes_of}
use Rattle.ck_design.specs.NotesForm.{AreInForm}
use Rattle.ck_design.specs.Tight.{IsTight}
use Rattle.ck_design.proofs.NotesForm.{in_form}
use Rattle.ck_design.proofs.SomeRun.{each_choice_has_one_run}
use Rattle.ck_design.proofs.NotesWhole.{tight}
use Rattle.ck_design.specs.Traces.{HaveOwnNames}
use Rattle.ck_design.proofs.Dumps.{dumps}
use Rattle.ck_design.proofs.TracesWhole.{traces}
use Rattle.vl_lower_spec.specs.Evaluations.{run_of}
use Rattle.vcd_dump.specs.Vcd.{IsTrace, vcd_text}
use Rattle.rvf_judge.specs.declared.judged.CertificateTexts.{CertificateTexts}
use Rattle.rvf_judge.specs.Judged.{AreTexts, Fits, IsNever, IsShown, IsSpent, SayBoth}
use Rattle.rvf_judge.specs.JudgeParts.{AreReadBack, IsDump}

pub few_channels : (channels : ℕ) (q : Question) → IsQuestion channels q → channels ≤ 2 → question_channel q < 2 ^ 26
few_channels channels q h few =
    let less : question_channel q < 2 = omega (arith, channel_within channels q h, few) in
    let room : 2 ≤ 2 ^ 26 = lit≤ tt in
    omega (arith, less, room)

-- what is read of the texts is what they say
pub both_said : (formula : Cnf) (steps : List Step) (texts : CertificateTexts) → (formula.vars < 10 ^ 18 → AreShort steps)
    → AreReadBack formula steps texts → Fits formula → SayBoth formula steps texts
both_said formula steps texts short back fits = record {
  formula_said = (formula_law texts.clauses formula).0 (back.clauses fits);
  steps_said = (steps_law texts.steps steps).0 (back.steps (short (omega (arith, fits.vars))));
}

module _ (ps : List Part) (net : Netlist) (names : Names) (channels : ℕ) (wants : Wants) (port : Port) (q : Question)
    (opts : Opts) (loaded : IsLoaded ps net names channels wants port) (whole : IsNet net)
    (lawful : IsQuestion (length port.channels) q) where
  is_question : IsQuestion channels q
  is_question = subst (λ n. IsQuestion n q) loaded.many lawful

  -- the clauses are tight for the design
  is_tight : (c : Certificate) → AreBitsOf net (question_cycle q) c.bits
      → AreOfRuns net (question_cycle q) (Gives net port q opts) (fields_in net port q) c
      → IsTight ps channels wants q opts (notes_of names c.bits (question_channel q) (question_cycle q) c.fields)
      c.formula
  is_tight c bits h = tight ps net names channels wants port q opts c loaded whole is_question bits h

  -- and their notes in form
  is_in_form : (c : Certificate) → AreBitsOf net (question_cycle q) c.bits
      → AreInForm (decls_of ps) (question_channel q) (question_cycle q)
      (notes_of names c.bits (question_channel q) (question_cycle q) c.fields)
  is_in_form c bits =
      in_form ps net names channels wants port c.bits (question_channel q) (question_cycle q) c.fields loaded bits

  pub never : (more : ℕ → Cnf → List Step → Type 0) (budget : ℕ) (c : Certificate) (texts : CertificateTexts)
      → verdict.IsNever net (question_cycle q) (Gives net port q opts) (fields_in net port q) (more budget) c
      → AreTexts (notes_of names c.bits (question_channel q) (question_cycle q) c.fields) c.formula c.steps texts
      → AreReadBack c.formula c.steps texts → IsNever more ps channels wants q opts budget texts
  never more budget c texts h written back = record {
    runs = λ chosen. each_choice_has_one_run ps net names (question_cycle q) chosen loaded.lowered whole;
    never = λ run v.
        let x = nets ps net names channels wants port q opts run loaded whole (in_order channels q is_question) v
        in h.never x.choices x.of x.gives;
    notes = notes_of names c.bits (question_channel q) (question_cycle q) c.fields;
    formula = c.formula;
    steps = c.steps;
    written = written;
    tight = is_tight c h.bits h.tight;
    in_form = is_in_form c h.bits;
    refuted = h.refuted;
    unsatisfiable = h.unsatisfiable;
    known = h.known;
    read_back = both_said c.formula c.steps texts h.short back;
  }

  pub spent : (budget : ℕ) (c : Certificate) (texts : CertificateTexts)
      → verdict.IsSpent net (question_cycle q) (Gives net port q opts) (fields_in net port q) budget c
      → AreTexts (notes_of names c.bits (question_channel q) (question_cycle q) c.fields) c.formula c.steps texts
      → AreReadBack c.formula c.steps texts → IsSpent ps channels wants q opts budget texts
  spent budget c texts h written back = record {
    notes = notes_of names c.bits (question_channel q) (question_cycle q) c.fields;
    formula = c.formula;
    steps = c.steps;
    written = written;
    tight = is_tight c h.bits h.tight;
    in_form = is_in_form c h.bits;
    valid = h.valid;
    resolved = h.resolved;
    count = h.count;
    few = h.few;
    read_back = both_said c.formula c.steps texts h.short back;
  }

  pub shown : (x : Witness) (dump : List ℕ) → HaveOwnNames ps
      → IsOnce net (question_cycle q) (Gives net port q opts) x → IsDump net names q x dump
      → IsShown ps channels wants q opts dump
  shown x dump own once d =
      let ch = d.shows.ch in
      let of = d.shows.of_net in
      let K = question_cycle q in
      record {
        run = run_of net names ch K;
        found = designs ps net names channels wants port q opts ch loaded whole of (in_order channels q is_question)
            (once.bad ch of d.shows.same);
        dump_is = d.dump_is ∙ ap vcd_text (d.shows.shown ∙ traces ps net names ch K loaded.lowered whole own of);
      }

-- a trace of a witness has a dump
pub has_dump : (net : Netlist) (names : Names) (cycle : ℕ) (x : Witness) (trace : Trace) → IsNet net
    → AreNamesOf net names → ShowsWitness net names cycle x trace → IsTrace trace
has_dump net names cycle x trace whole own s =
    subst IsTrace (sym s.shown) (dumps net names s.ch cycle whole own s.of_net)
