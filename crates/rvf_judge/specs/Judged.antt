-- Meaning: What a question of a design comes to, and the texts that say so (rule of this project).
use Rattle.std.specs.Prelude.{◌≡◌, ℕ, ◌<◌, ◌≤◌, ◌^◌, Bool, false, List, length, map}
use Rattle.rv_table.specs.declared.retire.Opts.{Opts}
use Rattle.vl_size.specs.Size.{Values}
use Rattle.vl_mean.specs.Parts.{Part}
use Rattle.vl_mean_flat.specs.Flattened.{decls_of}
use Rattle.cnf_form.specs.Cnf.{Cnf, formula_true}
use Rattle.cnf_text.specs.Dimacs.{dimacs_text}
use Rattle.lrat_check.specs.declared.step.Step.{Step}
use Rattle.lrat_check.specs.Resolved.{Resolved, derived}
use Rattle.lrat_check.specs.Steps.{Refutes, Valid}
use Rattle.lrat_check.specs.Texts.{lrat_text}
use Rattle.lrat_texts.specs.Formulas.{SaysFormula}
use Rattle.lrat_texts.specs.Steps.{SaysSteps}
use Rattle.sat_search.specs.Found.{EndsEmpty}
use Rattle.rvfi_port.specs.declared.port.Wants.{Wants}
use Rattle.ck_ask.specs.Questions.{question_channel, question_cycle}
use Rattle.ck_ask.specs.declared.question.Question.{Question}
use Rattle.ck_design.specs.Choosing.{HasOneRun}
use Rattle.ck_design.specs.Findings.{IsFound}
use Rattle.ck_design.specs.declared.note.Note.{Note}
use Rattle.ck_design.specs.NotesForm.{AreInForm}
use Rattle.ck_design.specs.Tight.{IsTight}
use Rattle.rvf_judge.specs.Lines.{note_text}
use Rattle.ck_design.specs.Traces.{trace_of_run}
use Rattle.vcd_dump.specs.Vcd.{vcd_text}
use Rattle.rvf_judge.specs.declared.judged.CertificateTexts.{CertificateTexts}
use Rattle.rvf_judge.specs.declared.judged.Judged.{Judged}
use Rattle.rvf_judge.specs.declared.judged.Judged.TheVariants as judged

-- the texts are those of a formula with these notes, and of steps
pub record AreTexts (notes : List Note) (formula : Cnf) (steps : List Step) (texts : CertificateTexts) : Type 0 where
  pub clauses_are : texts.clauses ≡ dimacs_text (map note_text notes) formula
  pub steps_are : texts.steps ≡ lrat_text steps

-- within the limits of the format: at most a hundred million variables and clauses
pub record Fits (formula : Cnf) : Type 0 where
  pub vars : formula.vars ≤ 100000000
  pub clauses : length formula.clauses ≤ 100000000

-- whoever reads the texts finds the formula and the steps there, and nothing else
pub record SayBoth (formula : Cnf) (steps : List Step) (texts : CertificateTexts) : Type 0 where
  pub formula_said : SaysFormula texts.clauses formula
  pub steps_said : SaysSteps texts.steps steps

-- The design has one run for each choice, and none of them gives what is sought. The texts hold clauses whose models
-- are the runs of the design, seen at the notes, which stand in their form, with a last one that demands a run that
-- gives it, and steps that refute them, of which more is known; none stands behind the empty clause. The files are read
-- back as they were meant.
pub record IsNever (more : ℕ → Cnf → List Step → Type 0) (ps : List Part) (channels : ℕ) (wants : Wants) (q : Question)
    (opts : Opts) (budget : ℕ) (texts : CertificateTexts) : Type 0 where
  pub runs : (chosen : List Values) → HasOneRun ps (question_cycle q) chosen
  pub never : (run : List Values) → IsFound ps channels wants q opts run → ⊥
  pub notes : List Note
  pub formula : Cnf
  pub steps : List Step
  pub written : AreTexts notes formula steps texts
  pub tight : IsTight ps channels wants q opts notes formula
  pub in_form : AreInForm (decls_of ps) (question_channel q) (question_cycle q) notes
  pub refuted : (id : ℕ) × Refutes formula.clauses steps id × EndsEmpty steps id
  pub unsatisfiable : (values : ℕ → Bool) → formula_true values formula.clauses ≡ false
  pub known : more budget formula steps
  pub read_back : Fits formula → SayBoth formula steps texts

-- The text is the value-change dump of a run of the design that gives it.
pub record IsShown (ps : List Part) (channels : ℕ) (wants : Wants) (q : Question) (opts : Opts) (dump : List ℕ)
    : Type 0 where
  pub run : List Values
  pub found : IsFound ps channels wants q opts run
  pub dump_is : dump ≡ vcd_text (trace_of_run ps run)

-- The budget is used up. The texts hold such clauses, and steps that derive from them as many clauses as the budget,
-- each a resolvent of its hints and new to unit propagation, none of them empty; this takes so many variables. The
-- files are read back as they were meant.
pub record IsSpent (ps : List Part) (channels : ℕ) (wants : Wants) (q : Question) (opts : Opts) (budget : ℕ)
    (texts : CertificateTexts) : Type 0 where
  pub notes : List Note
  pub formula : Cnf
  pub steps : List Step
  pub written : AreTexts notes formula steps texts
  pub tight : IsTight ps channels wants q opts notes formula
  pub in_form : AreInForm (decls_of ps) (question_channel q) (question_cycle q) notes
  pub valid : Valid formula.clauses steps
  pub resolved : Resolved formula.clauses steps
  pub count : length (derived formula.clauses steps) ≡ budget
  pub few : budget < 3 ^ formula.vars
  pub read_back : Fits formula → SayBoth formula steps texts

-- what a judgement says of the design, and of the steps of a refutation
abbrev pub IsJudged : (ℕ → Cnf → List Step → Type 0) → List Part → ℕ → Wants → Question → Opts → ℕ → Judged → Type 0
IsJudged more ps channels wants q opts budget (judged.Never texts) =
    IsNever more ps channels wants q opts budget texts
IsJudged more ps channels wants q opts budget (judged.Found dump) = IsShown ps channels wants q opts dump
IsJudged more ps channels wants q opts budget (judged.Spent texts) = IsSpent ps channels wants q opts budget texts
