-- Meaning: `toaig CFG CHECK FILE`: the graph of a check as a file, or why there is none. Rules of this project.
use Rattle.std.specs.Prelude.{◌≡◌, ℕ, List, [], ◌∷◌}
use Rattle.fv_base.specs.Outside.{Told}
use Rattle.fv_base.specs.declared.event.Event.{Event}
use Rattle.ck_cfg.specs.declared.check.Check.{Check}
use Rattle.ck_cfg.specs.declared.config.Config.{Config}
use Rattle.ck_cfg.specs.Checks.{checks_of}
use Rattle.ck_ask.specs.declared.question.Question.TheVariants as question
use Rattle.rvf_case.specs.Askings as asking
use Rattle.rvf_case.specs.Cases.{AreUnrefused, Request, Seen, questions_in}
use Rattle.rvf_case.specs.Hearing.{cause_reads}
use Rattle.rvf_case.specs.Texts.{leaders, only_named}
use Rattle.rvf_graph.specs.declared.text.GraphText.{GraphText}
use Rattle.rvf_report.specs.declared.delivery.Delivery.{Delivery}
use Rattle.rvf_report.specs.declared.delivery.Delivery.TheVariants.{File, Line}
use Rattle.rvf_report.specs.declared.status.Status.{Status}
use Rattle.rvf_report.specs.declared.status.Status.TheVariants as s
use Rattle.rvf_core.specs.Checks.{HasRead, IsRefusal, has_reads}
use Rattle.rvf_core.specs.Encodes.{graph_line}
use Rattle.rvf_core.specs.Verdicts.{Tells}

-- the one check of a name is asked for
abbrev pub check_request : List ℕ → List ℕ → List ℕ → List ℕ → Request
check_request cfg check core basedir =
    record { cfg = cfg; core = core; basedir = basedir; asking = asking.One check }

-- the file of a graph, and behind it its line
abbrev pub graph_file : List ℕ → GraphText → List Delivery
graph_file name t = File name t.text ∷ (Line (graph_line t.inputs t.gates) ∷ [])

-- The configuration has the check, whose text isn't refused; the file is the text of the check's graph, and behind it
-- stands the graph's line.
pub record IsExported (cfg name file core basedir : List ℕ) (held : Told) (status : Status) (report : List Delivery)
    : Type 0 where
  pub config : Config
  pub files : List (List ℕ)
  pub read : HasRead (check_request cfg name core basedir) held config files
  pub unrefused : AreUnrefused config files (questions_in (check_request cfg name core basedir) config)
      (leaders config (questions_in (check_request cfg name core basedir) config))
  pub check : Check
  pub named : only_named name (checks_of config) ≡ check ∷ []
  pub made : GraphText
  pub tells : Tells config files (questions_in (check_request cfg name core basedir) config) (question.Check check) made
  pub status_is : status ≡ s.Passed
  pub report_is : report ≡ graph_file file made

pub data Exports (cfg name file core basedir : List ℕ) (seen : Seen) (status : Status) (report : List Delivery)
    : Type 0 where
  exported : IsExported cfg name file core basedir seen.held status report
      → Exports cfg name file core basedir seen status report
  refused : IsRefusal (check_request cfg name core basedir) seen status report
      → Exports cfg name file core basedir seen status report

-- what was read for it
abbrev pub exports_reads : (cfg name file core basedir : List ℕ) (seen : Seen) (status : Status)
    (report : List Delivery) → Exports cfg name file core basedir seen status report → List Event
exports_reads cfg name file core basedir seen status report (exported h) =
    has_reads (check_request cfg name core basedir) seen.held h.config h.files h.read
exports_reads cfg name file core basedir seen status report (refused h) =
    cause_reads (check_request cfg name core basedir) seen h.refusal h.cause
