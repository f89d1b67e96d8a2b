-- Meaning: `fromaig AAG CNF`: the clauses of a graph as a file, or why there are none. Rules of this project.
use Rattle.std.specs.Prelude.{◌≡◌, ℕ, List, [], ◌∷◌, length, codes, decimal}
use Rattle.fv_base.specs.Outside.{Told, Lacks, ReadGives, Rose}
use Rattle.fv_base.specs.declared.event.Event.{Event}
use Rattle.fv_base.specs.declared.event.Event.TheVariants.{Gave, Lacked, Failed}
use Rattle.aiger_text.specs.Faults.{aag_number}
use Rattle.aiger_text.specs.Profile.{HasCause, IsOfProfile}
use Rattle.aiger_text.specs.Said.{Said}
use Rattle.aiger_text.specs.declared.fault.AagFault.{AagFault}
use Rattle.aiger_text.specs.declared.fault.AagFault.TheVariants as aag
use Rattle.rvf_graph.specs.Clauses.{IsClauseText}
use Rattle.rvf_case.specs.Cases.{Seen}
use Rattle.rvf_report.specs.Lines.{absent_line, unread_line}
use Rattle.rvf_report.specs.Printed.{ended, spaced}
use Rattle.rvf_report.specs.declared.delivery.Delivery.{Delivery}
use Rattle.rvf_report.specs.declared.delivery.Delivery.TheVariants.{File, Line}
use Rattle.rvf_report.specs.declared.status.Status.{Status}
use Rattle.rvf_report.specs.declared.status.Status.TheVariants as s
use Rattle.rvf_core.specs.Certificate.{two_values}

-- the line of the text in which a refusal is; want of memory has none
abbrev pub line_in_aag : AagFault → ℕ
line_in_aag (aag.Header line) = line
line_in_aag (aag.Kind line) = line
line_in_aag (aag.Literal line) = line
line_in_aag (aag.Twice line) = line
line_in_aag (aag.Open line) = line
line_in_aag (aag.Undefined line) = line
line_in_aag (aag.Loop line) = line
line_in_aag aag.Memory = 0

-- `refused aiger C LINE`
abbrev pub aag_line : AagFault → List ℕ
aag_line fault = two_values (codes "refused aiger") (aag_number fault) (decimal (line_in_aag fault))

-- `aiger I A`: how many inputs and how many gates there are
abbrev pub graph_line : ℕ → ℕ → List ℕ
graph_line inputs gates = spaced (codes "aiger") (spaced (decimal inputs) (ended (decimal gates)))

-- the file of the clauses, and behind it the line of the graph
abbrev pub graph_report : List ℕ → Said → List ℕ → List Delivery
graph_report cnf said text = File cnf text ∷ (Line (graph_line (length said.inputs) (length said.gates)) ∷ [])

-- what the text of a graph comes to
pub data IsEncoding (bytes cnf : List ℕ) (status : Status) (report : List Delivery) : Type 0 where
  -- it says a graph, and the text that is written has the graph's clauses
  clauses : (said : Said) (text : List ℕ) → IsOfProfile bytes said → IsClauseText said text → status ≡ s.Passed
      → report ≡ graph_report cnf said text → IsEncoding bytes cnf status report
  -- or this is why it says none
  refused : (fault : AagFault) → HasCause bytes fault → status ≡ s.Refused → report ≡ Line (aag_line fault) ∷ []
      → IsEncoding bytes cnf status report

-- the file gave bytes, and status and report are what they come to
pub record IsRead (graph cnf : List ℕ) (held : Told) (status : Status) (report : List Delivery) : Type 0 where
  pub bytes : List ℕ
  pub gives : ReadGives held graph bytes
  pub encoding : IsEncoding bytes cnf status report

-- it isn't held, which was counted
pub record IsAbsent (graph : List ℕ) (seen : Seen) (status : Status) (report : List Delivery) : Type 0 where
  pub lacks : Lacks seen.held graph
  pub counted : Rose seen.misses seen.misses_now
  pub status_is : status ≡ s.Absent
  pub report_is : report ≡ Line (absent_line graph) ∷ []

-- it could not be read, which was counted
pub record IsUnread (graph : List ℕ) (seen : Seen) (status : Status) (report : List Delivery) : Type 0 where
  pub counted : Rose seen.faults seen.faults_now
  pub status_is : status ≡ s.ReadFault
  pub report_is : report ≡ Line (unread_line graph) ∷ []

pub data Encodes (graph cnf : List ℕ) (seen : Seen) (status : Status) (report : List Delivery) : Type 0 where
  read : IsRead graph cnf seen.held status report → Encodes graph cnf seen status report
  absent : IsAbsent graph seen status report → Encodes graph cnf seen status report
  unread : IsUnread graph seen status report → Encodes graph cnf seen status report

-- what was read for it
abbrev pub encodes_reads : (graph cnf : List ℕ) (seen : Seen) (status : Status) (report : List Delivery)
    → Encodes graph cnf seen status report → List Event
encodes_reads graph cnf seen status report (read h) = Gave graph h.bytes ∷ []
encodes_reads graph cnf seen status report (absent h) = Lacked graph ∷ []
encodes_reads graph cnf seen status report (unread h) = Failed graph ∷ []
