-- Meaning: What a delivered line `proved NAME K` means, by what was read and put in a run: no run of any length lacks
-- the property of the check. Rule of this project.
use Rattle.std.specs.Prelude.{◌≡◌, ℕ, List, ◌++◌, Some}
use Rattle.std.specs.List.{Contains}
use Rattle.fv_base.specs.Outside.{Told}
use Rattle.fv_base.specs.declared.event.Event.{Event}
use Rattle.fv_base.specs.declared.event.Event.TheVariants.{Put}
use Rattle.ck_cfg.specs.declared.check.Check.{Check}
use Rattle.ck_cfg.specs.declared.config.Config.{Config}
use Rattle.ck_cfg.specs.Checks.{checks_of}
use Rattle.rvf_words.specs.declared.line.Line.TheVariants as words
use Rattle.rvf_words.specs.declared.line.Options.{Options}
use Rattle.rvf_words.specs.Line.{line_of}
use Rattle.rvf_case.specs.Cases.{Request, questions_in}
use Rattle.rvf_checks.specs.LengthLines.{proved_line}
use Rattle.rvf_report.specs.declared.status.Status.{Status}
use Rattle.rvf_core.specs.Checks.{HasRead, has_reads}
use Rattle.rvf_core.specs.Lengths.{ProvedMeans, length_request}
use Rattle.rvf_core.specs.Run.{Answers, Run}

-- What was read are the file of the configuration and those that it names, each once, in order and nothing else; they
-- gave these, as they were before the run; and a check with this name is proved.
pub record HasProved (q : Request) (held : Told) (events : List Event) (name : List ℕ) : Type 0 where
  pub config : Config
  pub files : List (List ℕ)
  pub read : HasRead q held config files
  pub heard : events ≡ has_reads q held config files read
  pub check : Check
  pub among : Contains (checks_of config) check
  pub named : check.name ≡ name
  pub means : ProvedMeans config files (questions_in q config) check

-- under the words `induct CFG OUTDIR` with their options, a line `proved NAME K` that was put is of a check that is
-- proved
abbrev pub ProofsAreMeant : Type 0
ProofsAreMeant =
    (status : Status) (r : Run) (o : Options) (steps : ℕ) → line_of r.words ≡ Some (words.Induct o steps)
    → Answers status r
    → (reads puts : List Event) → r.now.heard ≡ r.before.heard ++ reads → r.now.taken ≡ r.before.taken ++ puts
    → (name : List ℕ) → Contains puts (Put (proved_line name steps))
    → HasProved (length_request o steps) r.before.held reads name
