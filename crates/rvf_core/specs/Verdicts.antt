-- Meaning: What the questions of a configuration come to, said of the designs that their texts write. Rules of this
-- project.
use Rattle.std.specs.Prelude.{◌≡◌, ℕ, Bool, true, false, List, [], ◌∷◌, Option, Some, None, map}
use Rattle.std.specs.List.{list_any}
use Rattle.vl_elab_spec.specs.Refused.{refusal}
use Rattle.ck_cfg.specs.declared.check.Check.{Check}
use Rattle.ck_cfg.specs.declared.config.Config.{Config}
use Rattle.ck_cfg.specs.Checks.{checks_of}
use Rattle.ck_cfg.specs.declared.kind.CheckKind.{CheckKind}
use Rattle.ck_cfg.specs.declared.kind.CheckKind.TheVariants as kind
use Rattle.ck_cfg.specs.Kind.{is_kind}
use Rattle.vl_size.specs.Size.{Values}
use Rattle.rv_table.specs.declared.retire.Opts.{Opts}
use Rattle.rv_table.specs.declared.row.RowId.{RowId}
use Rattle.rvfi_port.specs.declared.port.Wants.{Wants}
use Rattle.ck_ask.specs.Questions.{question_kind}
use Rattle.ck_ask.specs.declared.question.Question.{Question}
use Rattle.ck_ask.specs.declared.question.Question.TheVariants as question
use Rattle.ck_design.specs.Findings.{IsFound}
use Rattle.ck_design.specs.Retirements.{IsViolating}
use Rattle.vl_text.specs.SourceText.{Reading}
use Rattle.rvf_case.specs.Loads.{Asked, Reads, design_of, opts_of, wants_of, top}
use Rattle.rvf_graph.specs.GraphTexts.{TellsRuns}
use Rattle.rvf_graph.specs.declared.text.GraphText.{GraphText}
use Rattle.rvf_judge.specs.Judged.{IsJudged}
use Rattle.rvf_judge.specs.declared.judged.Judged.{Judged}
use Rattle.rvf_checks.specs.Known.{known_of}
use Rattle.rvf_case.specs.Texts.{asked_for, leader_of}

-- the text of a kind where these questions are asked, with what is asked of it
abbrev pub text_for : Config → List (List ℕ) → List Question → CheckKind → Asked
text_for c files qs kind = asked_for c files qs (leader_of c qs kind)

-- a question for each check of the configuration
abbrev pub check_questions : Config → List Question
check_questions c = map (λ x. question.Check x) (checks_of c)

-- the text of the checks of a kind, with what is asked of it
abbrev pub text_of : Config → List (List ℕ) → CheckKind → Asked
text_of c files kind = text_for c files (check_questions c) kind

-- the texts come to this reading, and its tree writes a design
pub record IsReading (a : Asked) (r : Reading) : Type 0 where
  pub reads : Reads a r
  pub accepted : refusal r.tree.modules top ≡ None

-- what is probed of a check's design, and its options
abbrev pub wants_in : Asked → Reading → Wants
wants_in a r = wants_of a.probes r.macros

abbrev pub opts_in : Asked → Reading → Opts
opts_in a r = opts_of a.core r.macros

-- the run is one of the design of the check's text, is assumed, and lacks the check's property
pub record Violates (c : Config) (files : List (List ℕ)) (x : Check) (run : List Values) : Type 0 where
  pub reading : Reading
  pub is : IsReading (text_of c files x.kind) reading
  pub violating : IsViolating (design_of reading.tree.modules) c.nret (wants_in (text_of c files x.kind) reading) x
      (opts_in (text_of c files x.kind) reading) run

-- The run is one of the design of the question's text, is assumed, and gives what is sought, where these questions are
-- asked: it violates the check, reaches the target, or retires a word of the row of Zba or Zbs and does otherwise.
pub record Gives (c : Config) (files : List (List ℕ)) (qs : List Question) (q : Question) (run : List Values)
    : Type 0 where
  pub reading : Reading
  pub is : IsReading (text_for c files qs (question_kind q)) reading
  pub found : IsFound (design_of reading.tree.modules) c.nret
      (wants_in (text_for c files qs (question_kind q)) reading) q
      (opts_in (text_for c files qs (question_kind q)) reading) run

abbrev pub IsGiven : Config → List (List ℕ) → List Question → Question → Type 0
IsGiven c files qs q = (run : List Values) × Gives c files qs q run

-- a target without a row isn't given; a row that isn't reached fails nothing
abbrev pub IsUnmet : Option RowId → Type 0 → Type 0
IsUnmet None Given = Given → ⊥
IsUnmet (Some row) Given = ⊥

-- what fails: a check that some run violates, a row of Zba or Zbs where some run does otherwise, a target without a row
-- that no run reaches
abbrev pub QuestionFails : Config → List (List ℕ) → List Question → Question → Type 0
QuestionFails c files qs (question.Check x) = IsGiven c files qs (question.Check x)
QuestionFails c files qs (question.Target t) = IsUnmet t.row (IsGiven c files qs (question.Target t))
QuestionFails c files qs (question.Zb z) = IsGiven c files qs (question.Zb z)

-- What a question comes to is said of the design of its text: where these questions are asked, within a budget of
-- learnt clauses, and its clauses are split by so many variables.
pub record Judges (c : Config) (files : List (List ℕ)) (qs : List Question) (budget cubes : ℕ) (q : Question)
    (j : Judged) : Type 0 where
  pub reading : Reading
  pub is : IsReading (text_for c files qs (question_kind q)) reading
  -- and the text has no other reading
  pub one : (other : Reading) → Reads (text_for c files qs (question_kind q)) other → other ≡ reading
  pub judged : IsJudged (known_of cubes) (design_of reading.tree.modules) c.nret
      (wants_in (text_for c files qs (question_kind q)) reading) q
      (opts_in (text_for c files qs (question_kind q)) reading) budget j

-- The text of a question's graph is said of the design of its text, where these questions are asked.
pub record Tells (c : Config) (files : List (List ℕ)) (qs : List Question) (q : Question) (t : GraphText) : Type 0 where
  pub reading : Reading
  pub is : IsReading (text_for c files qs (question_kind q)) reading
  -- and the text has no other reading
  pub one : (other : Reading) → Reads (text_for c files qs (question_kind q)) other → other ≡ reading
  pub tells : TellsRuns (design_of reading.tree.modules) c.nret
      (wants_in (text_for c files qs (question_kind q)) reading) q
      (opts_in (text_for c files qs (question_kind q)) reading) t

-- of the first of some questions, as many as there are answers
abbrev pub AreJudged : Config → List (List ℕ) → List Question → ℕ → ℕ → List Question → List Judged → Type 0
AreJudged c files qs budget cubes xs [] = Unit {0}
AreJudged c files qs budget cubes [] (j ∷ js) = ⊥
AreJudged c files qs budget cubes (x ∷ xs) (j ∷ js) =
    Judges c files qs budget cubes x j × AreJudged c files qs budget cubes xs js

-- ---- the note of other arithmetic operations

abbrev pub has_rows : List Question → Bool
has_rows qs = list_any (λ q. is_kind (question_kind q) kind.Insn) qs

-- the text of the questions on rows has them
pub record HasAltops (c : Config) (files : List (List ℕ)) (qs : List Question) (noted : Bool) : Type 0 where
  pub reading : Reading
  pub is : IsReading (text_for c files qs kind.Insn) reading
  pub noted_is : noted ≡ (opts_in (text_for c files qs kind.Insn) reading).altops

-- by whether there is a question on a row
abbrev pub IsNotedWhere : Bool → Config → List (List ℕ) → List Question → Bool → Type 0
IsNotedWhere true c files qs noted = HasAltops c files qs noted
IsNotedWhere false c files qs noted = noted ≡ false

-- it is noted exactly where there is a question on a row, and its text has them
abbrev pub IsNoted : Config → List (List ℕ) → List Question → Bool → Type 0
IsNoted c files qs noted = IsNotedWhere (has_rows qs) c files qs noted
