-- Meaning: `list CFG`: the names of the checks of a configuration, or why there are none. Rules of this project.
use Rattle.std.specs.Prelude.{◌≡◌, ℕ, List, [], ◌∷◌, ◌++◌, map}
use Rattle.fv_base.specs.Outside.{Lacks, Rose}
use Rattle.fv_base.specs.declared.event.Event.{Event}
use Rattle.fv_base.specs.declared.event.Event.TheVariants.{Gave, Lacked, Failed}
use Rattle.ck_cfg.specs.declared.check.Check.{Check}
use Rattle.ck_cfg.specs.declared.config.Config.{Config}
use Rattle.ck_cfg.specs.Checks.{checks_of}
use Rattle.rvf_case.specs.Cases.{Request, Seen, IsConfigured, IsMisconfigured}
use Rattle.rvf_case.specs.Askings as asking
use Rattle.rvf_case.specs.declared.refusal.Refusal.{Refusal}
use Rattle.rvf_case.specs.declared.refusal.Refusal.TheVariants as refusal
use Rattle.rvf_report.specs.Lines.{refusal_line}
use Rattle.rvf_report.specs.declared.delivery.Delivery.{Delivery}
use Rattle.rvf_report.specs.declared.delivery.Delivery.TheVariants.{Line}
use Rattle.rvf_report.specs.declared.status.Status.{Status}
use Rattle.rvf_report.specs.declared.status.Status.TheVariants as s
use Rattle.rvf_core.specs.Checks.{refused_status}

-- only the file of the configuration is read
abbrev pub alone : List ℕ → Request
alone cfg = record { cfg = cfg; core = []; basedir = []; asking = asking.Checks }

-- a name, and the end of its line
abbrev pub name_line : Check → Delivery
name_line x = Line (x.name ++ 10 ∷ [])

-- the configuration was read, and these are the names of its checks
pub record AreListed (cfg : List ℕ) (seen : Seen) (status : Status) (report : List Delivery) : Type 0 where
  pub config : Config
  pub configured : IsConfigured (alone cfg) seen.held config
  pub status_is : status ≡ s.Passed
  pub report_is : report ≡ map name_line (checks_of config)

-- why the configuration isn't there: its file isn't held, could not be read, or is refused
abbrev pub IsCause : List ℕ → Seen → Refusal → Type 0
IsCause cfg seen (refusal.Absent name) =
    (name ≡ cfg) × Lacks seen.held name × Rose seen.misses seen.misses_now
IsCause cfg seen (refusal.Unread name) = (name ≡ cfg) × Rose seen.faults seen.faults_now
IsCause cfg seen (refusal.Config f) = IsMisconfigured (alone cfg) seen.held f
IsCause cfg seen r = ⊥

-- what was read for it
abbrev pub cause_reads : (cfg : List ℕ) (seen : Seen) (f : Refusal) → IsCause cfg seen f → List Event
cause_reads cfg seen (refusal.Absent name) h = Lacked name ∷ []
cause_reads cfg seen (refusal.Unread name) h = Failed name ∷ []
cause_reads cfg seen (refusal.Config f) h = Gave cfg h.bytes ∷ []
cause_reads cfg seen r h = []

pub record IsRefusal (cfg : List ℕ) (seen : Seen) (status : Status) (report : List Delivery) : Type 0 where
  pub refusal : Refusal
  pub cause : IsCause cfg seen refusal
  pub status_is : status ≡ refused_status refusal
  pub report_is : report ≡ Line (refusal_line refusal) ∷ []

pub data Lists (cfg : List ℕ) (seen : Seen) (status : Status) (report : List Delivery) : Type 0 where
  listed : AreListed cfg seen status report → Lists cfg seen status report
  refused : IsRefusal cfg seen status report → Lists cfg seen status report

-- what was read for it
abbrev pub lists_reads : (cfg : List ℕ) (seen : Seen) (status : Status) (report : List Delivery)
    → Lists cfg seen status report → List Event
lists_reads cfg seen status report (listed h) = Gave cfg h.configured.bytes ∷ []
lists_reads cfg seen status report (refused h) = cause_reads cfg seen h.refusal h.cause
