-- Between functions: What the functions of the top call promise one another. Rules of this project.
use Rattle.std.specs.Prelude.{◌≡◌, ℕ, true, false, Bool, List, [], ◌∷◌, ◌++◌, Option, Some}
use Rattle.aiger_text.specs.Said.{Said}
use Rattle.aiger_text.specs.declared.fault.AagFault.{AagFault}
use Rattle.aiger_text.specs.declared.fault.AagFault.TheVariants as aag
use Rattle.fv_base.specs.Outside.{FilesState, Names}
use Rattle.fv_base.specs.declared.event.Event.{Event}
use Rattle.vl_mean.specs.Parts.{Part}
use Rattle.rvfi_port.specs.declared.port.Wants.{Wants}
use Rattle.ck_ask.specs.declared.question.Question.{Question}
use Rattle.ck_design.specs.Loaded.{IsLoaded}
use Rattle.rvf_words.specs.declared.line.Line.{Line as Words}
use Rattle.rvf_words.specs.declared.line.Line.TheVariants as words
use Rattle.rvf_case.specs.Cases.{IsCause, Request, Seen, loaded_for, seen_between}
use Rattle.rvf_case.specs.Loading.{Loaded}
use Rattle.rvf_case.specs.declared.case.Case.{Case}
use Rattle.rvf_case.specs.declared.refusal.Refusal.{Refusal}
use Rattle.rvf_case.specs.declared.refusal.Refusal.TheVariants as refusal
use Rattle.rvf_graph.specs.GraphTexts.{TellsRuns}
use Rattle.rvf_graph.specs.declared.text.GraphText.{GraphText}
use Rattle.rvf_report.specs.Outcome.{Delivers}
use Rattle.rvf_report.specs.declared.status.Status.{Status}
use Rattle.rvf_report.specs.declared.status.Status.TheVariants as s
use Rattle.rvf_core.specs.declared.report.Report.{Report}
use Rattle.rvf_core.specs.Certificate.{one_line}
use Rattle.rvf_core.specs.Certifies.{Certifies, certifies_reads}
use Rattle.rvf_core.specs.Checks.{refused_status}
use Rattle.rvf_core.specs.Encodes.{Encodes, IsEncoding, encodes_reads, graph_report}
use Rattle.rvf_core.specs.Exports.{Exports, check_request, exports_reads, graph_file}
use Rattle.rvf_core.specs.Lengths.{length_request}
use Rattle.rvf_core.specs.Lists.{Lists, lists_reads}
use Rattle.rvf_core.specs.Run.{Run, comes, rose, seen_in}
use Rattle.rvf_core.specs.Tasks.{Task, task_asked}

abbrev pub is_memory : Refusal → Bool
is_memory refusal.Memory = true
is_memory f = false

-- where this is asked for, the files are told, and no read or write failed, each cause why no question is answered has
-- its status
abbrev pub HaveCauses : Request → Run → Status → Type 0
HaveCauses q r status =
    (names : Names) → r.before.held ≡ Some names → rose r.before.faults r.now.faults ≡ false → (f : Refusal)
    → IsCause q (seen_in r) f → comes (refused_status f) status ≡ true

-- want of memory left the file of a graph's clauses or the line
abbrev pub LeavesGraph : List ℕ → Run → Status → Type 0
LeavesGraph cnf r status =
    status ≡ s.Memory → (said : Said) (text : List ℕ) → Delivers r.before r.now (graph_report cnf said text) → ⊥

-- want of memory left the file of a graph or its line, and each cause why there is none has its status
pub record HaveGraph (q : Request) (file : List ℕ) (r : Run) (status : Status) : Type 0 where
  pub causes : HaveCauses q r status
  pub leaves : status ≡ s.Memory → (t : GraphText) → Delivers r.before r.now (graph_file file t) → ⊥

abbrev pub Leaves : Option Words → Run → Status → Type 0
Leaves (Some (words.Toaig cfg check file core basedir)) r status =
    HaveGraph (check_request cfg check core basedir) file r status
Leaves (Some (words.Fromaig aag cnf)) r status = LeavesGraph cnf r status
Leaves (Some (words.Induct o steps)) r status = HaveCauses (length_request o steps) r status
Leaves asked r status = Unit {0}

-- whatever the words ask for of files that are given
pub record HaveStatus (asked : Option Words) (r : Run) (status : Status) : Type 0 where
  pub causes : (t : Task) → task_asked asked ≡ Some t → HaveCauses t.request r status
  pub leaves : Leaves asked r status

-- no read failed, or the report is the line of one that did
pub data TellsReads (report : Report) (faults faults_now : ℕ) : Type 0 where
  all_read : faults_now ≡ faults → TellsReads report faults faults_now
  told : (line : List ℕ) → report ≡ one_line s.ReadFault line → TellsReads report faults faults_now

-- the report has its cause under `list CFG`, and exactly what it speaks of was read
abbrev pub ListsFor : List ℕ → FilesState → FilesState → Report → Type 0
ListsFor cfg before now report =
    (says : Lists cfg (seen_between before now) report.status report.deliveries)
    × (now.heard
    ≡ before.heard ++ lists_reads cfg (seen_between before now) report.status report.deliveries says)

-- and under `lrat CNF PROOF`
abbrev pub CertifiesFor : List ℕ → List ℕ → FilesState → FilesState → Report → Type 0
CertifiesFor cnf proof before now report =
    (says : Certifies cnf proof (seen_between before now) report.status report.deliveries)
    × (now.heard
    ≡ before.heard ++ certifies_reads cnf proof (seen_between before now) report.status report.deliveries says)

-- and under `fromaig AAG CNF`
abbrev pub EncodesFor : List ℕ → List ℕ → FilesState → FilesState → Report → Type 0
EncodesFor graph cnf before now report =
    (says : Encodes graph cnf (seen_between before now) report.status report.deliveries)
    × (now.heard
    ≡ before.heard ++ encodes_reads graph cnf (seen_between before now) report.status report.deliveries says)

-- memory was wanted, and the text isn't refused
abbrev pub wants_memory : AagFault → Bool
wants_memory (aag.Header line) = false
wants_memory (aag.Kind line) = false
wants_memory (aag.Literal line) = false
wants_memory (aag.Twice line) = false
wants_memory (aag.Open line) = false
wants_memory (aag.Undefined line) = false
wants_memory (aag.Loop line) = false
wants_memory aag.Memory = true

-- what the bytes of a graph's file come to
abbrev pub IsEncodingOf : List ℕ → List ℕ → Report → Type 0
IsEncodingOf bytes cnf report = IsEncoding bytes cnf report.status report.deliveries

-- the graph of a case's one question, of whatever design what is loaded is loaded from, as a file and a line
pub record IsGraphReport (case : Case) (file : List ℕ) (report : Report) : Type 0 where
  pub made : GraphText
  pub tells : (q : Question) (l : Loaded) → case.questions ≡ q ∷ [] → loaded_for case q ≡ Some l
      → (ps : List Part) (channels : ℕ) (wants : Wants) → IsLoaded ps l.net l.names channels wants l.port
      → TellsRuns ps channels wants q l.opts made
  pub status_is : report.status ≡ s.Passed
  pub report_is : report.deliveries ≡ graph_file file made

-- what is said of the graph of a check, and exactly what it speaks of was read
abbrev pub ExportsBy : (cfg name file core basedir : List ℕ) (before : List Event) (heard : List Event) (seen : Seen)
    → Report → Type 0
ExportsBy cfg name file core basedir before heard seen report =
    (says : Exports cfg name file core basedir seen report.status report.deliveries)
    × (heard ≡ before ++ exports_reads cfg name file core basedir seen report.status report.deliveries says)
