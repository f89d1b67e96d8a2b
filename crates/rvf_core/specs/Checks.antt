-- Meaning: What is reported on the questions that are asked of a configuration, in some words; or why nothing is. Rules
-- of this project.
use Rattle.std.specs.Prelude.{◌≡◌, ℕ, Bool, List, [], ◌∷◌, length}
use Rattle.fv_base.specs.Outside.{Told}
use Rattle.fv_base.specs.declared.event.Event.{Event}
use Rattle.ck_cfg.specs.declared.config.Config.{Config}
use Rattle.rvf_judge.specs.declared.judged.Judged.{Judged}
use Rattle.rvf_case.specs.Cases.{Request, Seen, IsConfigured, AreRead, AreUnrefused, IsCause, names_in, questions_in}
use Rattle.rvf_case.specs.Hearing.{all_gave, cause_reads}
use Rattle.rvf_case.specs.Texts.{leaders}
use Rattle.rvf_case.specs.declared.refusal.Refusal.{Refusal}
use Rattle.rvf_case.specs.declared.refusal.Refusal.TheVariants as refusal
use Rattle.rvf_report.specs.Lines.{refusal_line}
use Rattle.rvf_checks.specs.Checked.{begun, whole}
use Rattle.rvf_checks.specs.Counting.{status_of}
use Rattle.rvf_checks.specs.declared.wording.Wording.{Wording}
use Rattle.rvf_report.specs.declared.delivery.Delivery.{Delivery}
use Rattle.rvf_report.specs.declared.delivery.Delivery.TheVariants.{Line}
use Rattle.rvf_report.specs.declared.status.Status.{Status}
use Rattle.rvf_report.specs.declared.status.Status.TheVariants as s
use Rattle.rvf_core.specs.Verdicts.{AreJudged, IsNoted}

-- the file of the configuration and those that it names gave these
pub record HasRead (q : Request) (held : Told) (c : Config) (files : List (List ℕ)) : Type 0 where
  pub configured : IsConfigured q held c
  pub read : AreRead held (names_in q c) files

-- what was read for it: each of them by one read, in this order
abbrev pub has_reads : (q : Request) (held : Told) (c : Config) (files : List (List ℕ)) → HasRead q held c files
    → List Event
has_reads q held c files read = all_gave q read.configured.bytes (names_in q c) files

-- ---- reports

-- no text is refused, the first questions are answered, and this is the report as far as they go
pub record IsBegun (q : Request) (held : Told) (words : Wording) (folder : List ℕ) (budget cubes : ℕ)
    (report : List Delivery) : Type 0 where
  pub config : Config
  pub files : List (List ℕ)
  pub read : HasRead q held config files
  pub unrefused : AreUnrefused config files (questions_in q config) (leaders config (questions_in q config))
  pub answers : List Judged
  pub judged : AreJudged config files (questions_in q config) budget cubes (questions_in q config) answers
  pub noted : Bool
  pub is_noted : IsNoted config files (questions_in q config) noted
  pub report_is : report ≡ begun words folder budget noted config.skips (questions_in q config) answers

-- no text is refused, all questions are answered, the status is theirs, and this is the whole report
pub record IsWhole (q : Request) (held : Told) (words : Wording) (folder : List ℕ) (budget cubes : ℕ) (status : Status)
    (report : List Delivery) : Type 0 where
  pub config : Config
  pub files : List (List ℕ)
  pub read : HasRead q held config files
  pub unrefused : AreUnrefused config files (questions_in q config) (leaders config (questions_in q config))
  pub answers : List Judged
  pub judged : AreJudged config files (questions_in q config) budget cubes (questions_in q config) answers
  pub all : length answers ≡ length (questions_in q config)
  pub noted : Bool
  pub is_noted : IsNoted config files (questions_in q config) noted
  pub status_is : status ≡ status_of (questions_in q config) answers
  pub report_is : report ≡ whole words folder budget noted config.skips (questions_in q config) answers

-- ---- refusals

-- the status of each; want of memory is no refusal
abbrev pub refused_status : Refusal → Status
refused_status (refusal.Absent name) = s.Absent
refused_status (refusal.Unread name) = s.ReadFault
refused_status (refusal.Config f) = s.Config
refused_status (refusal.NoCheck name) = s.Refused
refused_status (refusal.Source f names) = s.Source
refused_status (refusal.Heavy name number) = s.Heavy
refused_status refusal.Memory = s.Memory

-- a cause is there why no question is answered, and its line is the report
pub record IsRefusal (q : Request) (seen : Seen) (status : Status) (report : List Delivery) : Type 0 where
  pub refusal : Refusal
  pub cause : IsCause q seen refusal
  pub status_is : status ≡ refused_status refusal
  pub report_is : report ≡ Line (refusal_line refusal) ∷ []

pub data Checks (q : Request) (seen : Seen) (words : Wording) (folder : List ℕ) (budget cubes : ℕ) (status : Status)
    (report : List Delivery) : Type 0 where
  judged : IsWhole q seen.held words folder budget cubes status report
      → Checks q seen words folder budget cubes status report
  refused : IsRefusal q seen status report → Checks q seen words folder budget cubes status report

-- what was read for it
abbrev pub checks_reads : (q : Request) (seen : Seen) (words : Wording) (folder : List ℕ) (budget cubes : ℕ)
    (status : Status) (report : List Delivery) → Checks q seen words folder budget cubes status report → List Event
checks_reads q seen words folder budget cubes status report (judged h) = has_reads q seen.held h.config h.files h.read
checks_reads q seen words folder budget cubes status report (refused h) = cause_reads q seen h.refusal h.cause
