-- Meaning: When clauses with notes say exactly what the runs of a design are, and which of them give what a question
-- seeks (rule of this project).
use Rattle.std.specs.Prelude.{◌≡◌, ◌↔◌, ℕ, ◌+◌, ◌*◌, ◌<◌, ◌≤◌, ◌==◌, Bool, true, false, List, [], ◌∷◌, ◌++◌, Some}
use Rattle.std.specs.Prelude.{slice_get, ℤ, pos}
use Rattle.std.specs.Int.{bit_at}
use Rattle.std.specs.List.{AllByRecursion}
use Rattle.rv_table.specs.declared.retire.Opts.{Opts}
use Rattle.vl_size.specs.Size.{Values}
use Rattle.vl_mean.specs.Parts.{Part}
use Rattle.vl_mean.specs.Runs.{IsAssumed, IsRun}
use Rattle.wn_net.specs.declared.names.Names.{Names}
use Rattle.wn_net.specs.Net.{Netlist, IsNet}
use Rattle.cnf_form.specs.Cnf.{Cnf, formula_true, literal_true}
use Rattle.rvfi_port.specs.declared.field.Field.{Field}
use Rattle.rvfi_port.specs.declared.port.Port.{Port}
use Rattle.rvfi_port.specs.declared.port.Wants.{Wants}
use Rattle.rvfi_port.specs.Fields.{channel_fields, field_name, field_width}
use Rattle.ck_ask.specs.Asked.{IsQuestion}
use Rattle.ck_ask.specs.Questions.{question_channel, question_cycle}
use Rattle.ck_ask.specs.declared.question.Question.{Question}
use Rattle.bm_decide.specs.declared.verdict.Certificate.{Certificate}
use Rattle.bm_decide.specs.Verdicts as verdict
use Rattle.ck_design.specs.Findings.{given_over}
use Rattle.ck_design.specs.Retirements.{values_at}
use Rattle.ck_design.specs.Loaded.{IsLoaded}
use Rattle.ck_design.specs.declared.note.Note.{Note}
use Rattle.ck_design.specs.declared.note.NoteLiteral.{NoteLiteral}
use Rattle.ck_design.specs.declared.note.NoteLiteral.TheVariants as literal
use Rattle.ck_design.specs.Notes.{notes_of}

-- the value of a note's literal, where the variables have these
abbrev pub note_value : (ℕ → Bool) → NoteLiteral → Bool
note_value v literal.Zero = false
note_value v literal.One = true
note_value v (literal.Clause l) = literal_true v l

-- the literal of a note has the value of the bit that it names
abbrev pub AgreeAt : (ℕ → Bool) → List Values → Note → Type 0
AgreeAt v run note = note_value v note.literal ≡ (bit_at (values_at run note.cycle note.name) note.bit == 1)

-- values agree with a run at all notes
abbrev pub Agree : (ℕ → Bool) → List Values → List Note → Type 0
Agree v run notes = AllByRecursion (AgreeAt v run) notes

-- the bit of the channel's field in the cycle has a note
pub record IsNoted (notes : List Note) (channel cycle : ℕ) (field : Field) (bit : ℕ) : Type 0 where
  pub place : ℕ
  pub note : Note
  pub there : slice_get notes place ≡ Some note
  pub name : note.name ≡ field_name field
  pub cycle_is : note.cycle ≡ cycle
  pub bit_is : note.bit ≡ channel * field_width field + bit

-- The last clause is one literal, the verdict. Each run up to the question's cycle agrees with exactly one model of the
-- clauses before it, and each such model with a run. Where they agree, the verdict is true exactly where the run is
-- assumed and gives what is sought. Each bit of each field of the question's channel in its cycle has a note.
pub record IsTight (ps : List Part) (channels : ℕ) (wants : Wants) (q : Question) (opts : Opts) (notes : List Note)
    (formula : Cnf) : Type 0 where
  pub before : List (List ℤ)
  pub last : formula.clauses ≡ before ++ (pos formula.vars ∷ []) ∷ []
  pub model : (run : List Values) → IsRun ps (question_cycle q) run
      → (v : ℕ → Bool) × (formula_true v before ≡ true) × Agree v run notes
  pub one : (run : List Values) (v w : ℕ → Bool) → IsRun ps (question_cycle q) run → formula_true v before ≡ true
      → formula_true w before ≡ true → Agree v run notes → Agree w run notes
      → (k : ℕ) → 1 ≤ k → k ≤ formula.vars → v k ≡ w k
  pub run : (v : ℕ → Bool) → formula_true v before ≡ true
      → (run : List Values) × IsRun ps (question_cycle q) run × Agree v run notes
  pub verdict : (v : ℕ → Bool) (run : List Values) → formula_true v before ≡ true → IsRun ps (question_cycle q) run
      → Agree v run notes
      → (v formula.vars ≡ true)
      ↔ (IsAssumed ps run × (given_over run channels wants q opts ≡ true))
  pub fields : AllByRecursion (λ field. (bit : ℕ) → bit < field_width field
      → IsNoted notes (question_channel q) (question_cycle q) field bit) channel_fields

-- the clauses that a question is decided by, with their notes, say so of the design of the net
abbrev pub CertificatesAreTight : Type 0
CertificatesAreTight =
    (ps : List Part) (net : Netlist) (names : Names) (channels : ℕ) (wants : Wants) (port : Port) (q : Question)
    (opts : Opts) (c : Certificate) → IsLoaded ps net names channels wants port → IsNet net → IsQuestion channels q
    → verdict.AreBitsOf net (question_cycle q) c.bits
    → verdict.AreOfRuns net (question_cycle q) (verdict.Gives net port q opts) (verdict.fields_in net port q) c
    → IsTight ps channels wants q opts (notes_of names c.bits (question_channel q) (question_cycle q) c.fields)
    c.formula
