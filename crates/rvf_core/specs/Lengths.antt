-- Meaning: `induct CFG OUTDIR`: what the checks of a configuration come to in runs of every length, or why nothing is
-- reported on them. Rules of this project.
use Rattle.std.specs.Prelude.{◌≡◌, ℕ, ◌≤◌, Bool, true, false, List, [], ◌∷◌, ◌++◌, length}
use Rattle.fv_base.specs.Outside.{Told}
use Rattle.fv_base.specs.declared.event.Event.{Event}
use Rattle.vl_size.specs.Size.{Values}
use Rattle.vl_mean.specs.Runs.{IsAssumed, IsRun}
use Rattle.ck_cfg.specs.declared.check.Check.{Check}
use Rattle.ck_cfg.specs.declared.config.Config.{Config}
use Rattle.ck_cfg.specs.Checks.{checks_of}
use Rattle.ck_ask.specs.declared.question.Question.{Question}
use Rattle.ck_design.specs.Retirements.{IsViolating, holds_over}
use Rattle.ck_gen.specs.Monitors.{is_of_one_cycle}
use Rattle.ck_induct.specs.OneCycle.{in_cycle}
use Rattle.bm_decide.specs.Searches.{TakesFewer}
use Rattle.vl_text.specs.SourceText.{Reading}
use Rattle.rvf_case.specs.Askings as asking
use Rattle.rvf_case.specs.Cases.{AreUnrefused, Request, Seen, questions_in}
use Rattle.rvf_case.specs.Hearing.{cause_reads}
use Rattle.rvf_case.specs.Loads.{Reads, design_of}
use Rattle.rvf_case.specs.Texts.{leaders}
use Rattle.rvf_judge.specs.declared.induction.Induction.{Induction}
use Rattle.rvf_judge.specs.declared.induction.Induction.TheVariants as induction
use Rattle.rvf_judge.specs.Inducted.{IsInducted}
use Rattle.rvf_checks.specs.Checked.{head}
use Rattle.rvf_checks.specs.LengthCounting.{length_status_of, lengths_of}
use Rattle.rvf_checks.specs.Lengths.{lengths_answered, lengths_last}
use Rattle.rvf_report.specs.declared.delivery.Delivery.{Delivery}
use Rattle.rvf_report.specs.declared.status.Status.{Status}
use Rattle.rvf_words.specs.declared.line.Options.{Options}
use Rattle.rvf_core.specs.Checks.{HasRead, IsRefusal, has_reads}
use Rattle.rvf_core.specs.Verdicts.{IsNoted, IsReading, opts_in, text_for, wants_in}

-- the checks of one cycle are asked for, in runs of every length
abbrev pub length_request : Options → ℕ → Request
length_request o steps =
    record { cfg = o.cfg; core = o.core; basedir = o.basedir; asking = asking.Lengths steps }

-- ---- what a check comes to

-- What a check of one cycle comes to is said of the design of its text, where these questions are asked: with so many
-- steps, each half within a budget of learnt clauses. Steps that refute take fewer clauses than the budget.
pub record Inducts (c : Config) (files : List (List ℕ)) (qs : List Question) (steps budget : ℕ) (x : Check)
    (made : Induction) : Type 0 where
  pub reading : Reading
  pub is : IsReading (text_for c files qs x.kind) reading
  -- and the text has no other reading
  pub one : (other : Reading) → Reads (text_for c files qs x.kind) other → other ≡ reading
  pub inducted : IsInducted TakesFewer (design_of reading.tree.modules) c.nret
      (wants_in (text_for c files qs x.kind) reading) x (opts_in (text_for c files qs x.kind) reading) steps budget made

-- one that looks at more than one cycle is skipped, whatever its text is
abbrev pub InductsWhere : Bool → Config → List (List ℕ) → List Question → ℕ → ℕ → Check → Induction → Type 0
InductsWhere true c files qs steps budget x made = Inducts c files qs steps budget x made
InductsWhere false c files qs steps budget x made = made ≡ induction.Skipped

-- of the first of some checks, as many as there are answers
abbrev pub AreInducted : Config → List (List ℕ) → List Question → ℕ → ℕ → List Check → List Induction → Type 0
AreInducted c files qs steps budget xs [] = Unit {0}
AreInducted c files qs steps budget [] (m ∷ ms) = ⊥
AreInducted c files qs steps budget (x ∷ xs) (m ∷ ms) =
    InductsWhere (is_of_one_cycle x.kind) c files qs steps budget x m × AreInducted c files qs steps budget xs ms

-- ---- what the lines say

-- some run up to a cycle from 1 to the number of steps violates the check, taken in this cycle
pub record ViolatesWithin (c : Config) (files : List (List ℕ)) (qs : List Question) (steps : ℕ) (x : Check)
    : Type 0 where
  pub reading : Reading
  pub is : IsReading (text_for c files qs x.kind) reading
  pub cycle : ℕ
  pub some : 1 ≤ cycle
  pub few : cycle ≤ steps
  pub run : List Values
  pub violating : IsViolating (design_of reading.tree.modules) c.nret (wants_in (text_for c files qs x.kind) reading)
      (in_cycle x cycle) (opts_in (text_for c files qs x.kind) reading) run

-- The text of a proved check has a tree, with the macros at its end, and no other one. Each run of the design that the
-- tree writes, up to any cycle from 1 on, has the check's property in this cycle, if it meets the assumptions.
pub record ProvedMeans (c : Config) (files : List (List ℕ)) (qs : List Question) (x : Check) : Type 0 where
  pub reading : Reading
  pub reads : Reads (text_for c files qs x.kind) reading
  pub one : (other : Reading) → Reads (text_for c files qs x.kind) other → other ≡ reading
  pub holds : (j : ℕ) (run : List Values) → 1 ≤ j → IsRun (design_of reading.tree.modules) j run
      → IsAssumed (design_of reading.tree.modules) run
      → holds_over run c.nret (wants_in (text_for c files qs x.kind) reading) (in_cycle x j)
      (opts_in (text_for c files qs x.kind) reading) ≡ true

-- ---- reports

-- the report as far as these answers go: the head, and of each check its files and its line
abbrev pub begun_lengths : List ℕ → ℕ → ℕ → Bool → List (List ℕ) → List Check → List Induction → List Delivery
begun_lengths folder steps budget noted skips xs made =
    head noted skips ++ lengths_answered folder steps budget xs made

-- and the whole of it, once all are answered
abbrev pub whole_lengths : List ℕ → ℕ → ℕ → Bool → List (List ℕ) → List Check → List Induction → List Delivery
whole_lengths folder steps budget noted skips xs made =
    begun_lengths folder steps budget noted skips xs made ++ lengths_last (lengths_of made) (length skips)

-- no text is refused, the first checks are answered, and this is the report as far as they go
pub record AreBegun (q : Request) (held : Told) (folder : List ℕ) (steps budget : ℕ) (report : List Delivery)
    : Type 0 where
  pub config : Config
  pub files : List (List ℕ)
  pub read : HasRead q held config files
  pub unrefused : AreUnrefused config files (questions_in q config) (leaders config (questions_in q config))
  pub answers : List Induction
  pub inducted : AreInducted config files (questions_in q config) steps budget (checks_of config) answers
  pub noted : Bool
  pub is_noted : IsNoted config files (questions_in q config) noted
  pub report_is : report ≡ begun_lengths folder steps budget noted config.skips (checks_of config) answers

-- no text is refused, all checks are answered, the status is theirs, and this is the whole report
pub record AreWhole (q : Request) (held : Told) (folder : List ℕ) (steps budget : ℕ) (status : Status)
    (report : List Delivery) : Type 0 where
  pub config : Config
  pub files : List (List ℕ)
  pub read : HasRead q held config files
  pub unrefused : AreUnrefused config files (questions_in q config) (leaders config (questions_in q config))
  pub answers : List Induction
  pub inducted : AreInducted config files (questions_in q config) steps budget (checks_of config) answers
  pub all : length answers ≡ length (checks_of config)
  pub noted : Bool
  pub is_noted : IsNoted config files (questions_in q config) noted
  pub status_is : status ≡ length_status_of answers
  pub report_is : report ≡ whole_lengths folder steps budget noted config.skips (checks_of config) answers

-- a status has its cause under `induct`, and this is its report
pub data LengthsAre (q : Request) (seen : Seen) (folder : List ℕ) (steps budget : ℕ) (status : Status)
    (report : List Delivery) : Type 0 where
  answered : AreWhole q seen.held folder steps budget status report
      → LengthsAre q seen folder steps budget status report
  refused : IsRefusal q seen status report → LengthsAre q seen folder steps budget status report

-- what was read for it
abbrev pub lengths_reads : (q : Request) (seen : Seen) (folder : List ℕ) (steps budget : ℕ) (status : Status)
    (report : List Delivery) → LengthsAre q seen folder steps budget status report → List Event
lengths_reads q seen folder steps budget status report (answered h) = has_reads q seen.held h.config h.files h.read
lengths_reads q seen folder steps budget status report (refused h) = cause_reads q seen h.refusal h.cause
