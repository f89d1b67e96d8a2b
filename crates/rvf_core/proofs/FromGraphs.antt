-- From the text of a graph to the report on it.
use Rattle.std.specs.Prelude.{false}
use Rattle.std.proofs.lemmas.Bool.{false≢true}
use Rattle.std.proofs.Common.{◌≡◌, ℕ, List, [], ◌∷◌, ◌++◌, length, Err, sym, ap, ◌∙◌, subst, refl}
use Rattle.fv_base.specs.Events.{read_events}
use Rattle.fv_base.specs.Outside.{FilesState, Lacks, ReadGives, Rose}
use Rattle.fv_base.specs.declared.event.Event.{Event}
use Rattle.fv_base.specs.declared.event.Event.TheVariants.{Gave}
use Rattle.fv_base.specs.declared.files.FileFault.{FileFault}
use Rattle.fv_base.specs.declared.files.FileFault.TheVariants as file
use Rattle.aiger_text.specs.Profile.{HasCause, IsOfProfile}
use Rattle.aiger_text.specs.Said.{Said}
use Rattle.aiger_text.specs.declared.fault.AagFault.{AagFault}
use Rattle.aiger_text.specs.declared.fault.AagFault.TheVariants as aag
use Rattle.aiger_text.specs.Faults.{OrMemory}
use Rattle.rvf_graph.specs.Clauses.{AreMade}
use Rattle.rvf_graph.specs.declared.clauses.GraphClauses.{GraphClauses}
use Rattle.rvf_case.specs.Cases.{Seen}
use Rattle.rvf_case.specs.Hearing.{AreReadOn, HeardMore}
use Rattle.rvf_report.specs.declared.delivery.Delivery.{Delivery}
use Rattle.rvf_report.specs.declared.delivery.Delivery.TheVariants.{File, Line}
use Rattle.rvf_report.specs.declared.status.Status.{Status}
use Rattle.rvf_report.specs.declared.status.Status.TheVariants as s
use Rattle.rvf_core.specs.Certificate.{one_line}
use Rattle.rvf_core.specs.Encodes.{Encodes, IsEncoding, aag_line, graph_line}
use Rattle.rvf_core.specs.Encodes as encodes
use Rattle.rvf_core.specs.Steps.{EncodesFor, IsEncodingOf, wants_memory}
use Rattle.rvf_core.specs.Unread.{IsUnreadReport}
use Rattle.rvf_core.specs.declared.report.Report.{Report}
use Rattle.rvf_core.proofs.Endings.{IsOwn}
use Rattle.rvf_core.proofs.FromFiles.{unread_on}

-- ---- what the text comes to

pub made_encodes : (bytes cnf : List ℕ) (made : GraphClauses) (report : Report)
    → (said : Said) × IsOfProfile bytes said × AreMade said made → report.status ≡ s.Passed
    → report.deliveries ≡ File cnf made.clauses ∷ (Line (graph_line made.inputs made.gates) ∷ [])
    → IsEncodingOf bytes cnf report
made_encodes bytes cnf made report h is are =
    let said : Said = h.0 in
    encodes.clauses said made.clauses h.1 h.2.clauses is
    (are ∙ ap (λ n. File cnf made.clauses ∷ (Line (graph_line n made.gates) ∷ [])) h.2.inputs
    ∙ ap (λ n. File cnf made.clauses ∷ (Line (graph_line (length said.inputs) n) ∷ [])) h.2.gates)

pub refused_encodes : (bytes cnf : List ℕ) (fault : AagFault) (report : Report) → HasCause bytes fault
    → report ≡ one_line s.Refused (aag_line fault) → IsEncodingOf bytes cnf report
refused_encodes bytes cnf fault report cause is =
    encodes.refused fault cause (ap (λ (r : Report). r.status) is) (ap (λ (r : Report). r.deliveries) is)

-- a refusal that isn't want of memory has its cause
pub cause_of : {P : Type 0} (fault : AagFault) → wants_memory fault ≡ false → OrMemory fault P → P
cause_of (aag.Header line) e p = p
cause_of (aag.Kind line) e p = p
cause_of (aag.Literal line) e p = p
cause_of (aag.Twice line) e p = p
cause_of (aag.Open line) e p = p
cause_of (aag.Undefined line) e p = p
cause_of (aag.Loop line) e p = p
cause_of aag.Memory e p = absurd (false≢true (sym e))

-- ---- the file

pub graph_read : (graph cnf gave bytes : List ℕ) (before now : FilesState) (report : Report)
    → ReadGives before.held graph gave → now.heard ≡ before.heard ++ Gave graph gave ∷ [] → bytes ≡ gave
    → IsEncodingOf bytes cnf report → EncodesFor graph cnf before now report
graph_read graph cnf gave bytes before now report gives heard same is = (
  encodes.read (record {
    bytes = bytes;
    gives = subst (λ b. ReadGives before.held graph b) (sym same) gives;
    encoding = is;
  }),
  heard ∙ ap (λ b. before.heard ++ Gave graph b ∷ []) (sym same),
)

pub graph_unread : (fault : FileFault) (graph cnf : List ℕ) (before now : FilesState) (report : Report)
    → (fault ≡ file.Absent → Lacks before.held graph) → (fault ≡ file.Absent → Rose before.misses now.misses)
    → (fault ≡ file.Failed → Rose before.faults now.faults)
    → now.heard ≡ before.heard ++ read_events graph (Err fault) → IsUnreadReport fault graph report
    → EncodesFor graph cnf before now report
graph_unread file.Absent graph cnf before now report lacks missed failed heard u = (
  encodes.absent (record {
    lacks = lacks refl;
    counted = missed refl;
    status_is = ap (λ (r : Report). r.status) u;
    report_is = ap (λ (r : Report). r.deliveries) u;
  }),
  heard,
)
graph_unread file.Failed graph cnf before now report lacks missed failed heard u = (
  encodes.unread (record {
    counted = failed refl;
    status_is = ap (λ (r : Report). r.status) u;
    report_is = ap (λ (r : Report). r.deliveries) u;
  }),
  heard,
)
graph_unread file.Memory graph cnf before now report lacks missed failed heard u = absurd u

-- it was read, as far as it went
pub read_one : (name bytes : List ℕ) (before now : List Event) → now ≡ before ++ Gave name bytes ∷ []
    → HeardMore before now (AreReadOn (name ∷ []))
read_one name bytes before now heard = record { events = Gave name bytes ∷ []; behind = heard; are = (refl, tt) }

pub unread_one : (fault : FileFault) (name : List ℕ) (before now : List Event)
    → now ≡ before ++ read_events name (Err fault) → HeardMore before now (AreReadOn (name ∷ []))
unread_one fault name before now heard =
    record { events = read_events name (Err fault); behind = heard; are = unread_on name [] fault }

-- ---- what it comes to stands for a cause of its own

own_encoding : (bytes cnf : List ℕ) (status : Status) (report : List Delivery) → IsEncoding bytes cnf status report
    → IsOwn status
own_encoding bytes cnf status report (encodes.clauses said text is c e r) = subst IsOwn (sym e) tt
own_encoding bytes cnf status report (encodes.refused fault cause e r) = subst IsOwn (sym e) tt

pub own_encoded : (graph cnf : List ℕ) (seen : Seen) (status : Status) (report : List Delivery)
    → Encodes graph cnf seen status report → IsOwn status
own_encoded graph cnf seen status report (encodes.read x) = own_encoding x.bytes cnf status report x.encoding
own_encoded graph cnf seen status report (encodes.absent x) = subst IsOwn (sym x.status_is) tt
own_encoded graph cnf seen status report (encodes.unread x) = subst IsOwn (sym x.status_is) tt
