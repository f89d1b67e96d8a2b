-- The clauses of a graph pass exactly where their file and the line came through.
use Rattle.std.proofs.Common.{◌≡◌, ℕ, List, [], ◌∷◌, ◌++◌, Some, Result, Ok, Err, IfOk, refl, sym, ap, ◌∙◌, subst}
use Rattle.std.proofs.Common.{length}
use Rattle.std.specs.Prelude.{◌↔◌}
use Rattle.fv_base.specs.declared.out.OutFault.{OutFault}
use Rattle.fv_base.specs.declared.out.OutFault.TheVariants as out
use Rattle.fv_text.specs.declared.memory.Memory.{Memory}
use Rattle.aiger_text.specs.Said.{Said}
use Rattle.rvf_words.specs.Line.{line_of}
use Rattle.rvf_words.specs.declared.line.Line.TheVariants as words
use Rattle.rvf_case.specs.Cases.{Seen}
use Rattle.rvf_report.specs.Outcome.{Outside, Delivers, LeavesOne, puts_of, writes_of}
use Rattle.rvf_report.specs.Status.{ends}
use Rattle.rvf_report.specs.declared.delivery.Delivery.{Delivery}
use Rattle.rvf_report.specs.declared.status.Status.{Status}
use Rattle.rvf_report.specs.declared.status.Status.TheVariants as s
use Rattle.rvf_core.specs.Encodes.{Encodes, IsEncoding, graph_line, graph_report}
use Rattle.rvf_core.specs.Encodes as encodes
use Rattle.rvf_core.specs.Puts.{Puts}
use Rattle.rvf_core.specs.Run.{Answers, Ends, IsEncoded, IsReport, Reports, Run, begun, nothing, seen_in, whole}
use Rattle.rvf_core.specs.Steps.{HaveStatus, Leaves, LeavesGraph}
use Rattle.rvf_core.specs.declared.report.Report.{Report}
use Rattle.rvf_core.proofs.Endings.{IsOwn}
use Rattle.rvf_core.proofs.FromGraphs.{own_encoded}
use Rattle.rvf_core.proofs.Later.{IsEarlier, later_delivers, part_pass}
use Rattle.rvf_core.proofs.Halves.{front_of_two, nothing_written, some_put, some_written}
use Rattle.rvf_core.proofs.Quiet.{never_empty, none_done}

-- ---- reports

front_puts : (bytes cnf : List ℕ) (status : Status) (report : List Delivery) → IsEncoding bytes cnf status report
    → (done : List Delivery) (next : Delivery) (rest : List Delivery) → done ++ next ∷ rest ≡ report
    → puts_of done ≡ []
front_puts bytes cnf status report (encodes.clauses said text is c e r) done next rest order =
    front_of_two done next rest cnf text _ (order ∙ r)
front_puts bytes cnf status report (encodes.refused fault cause e r) done next rest order =
    ap puts_of (none_done done next rest _ (order ∙ r))

-- no line of a report was put of which not all came through
none_put : (graph cnf : List ℕ) (seen : Seen) (status : Status) (report : List Delivery)
    → Encodes graph cnf seen status report → (done : List Delivery) (next : Delivery) (rest : List Delivery)
    → done ++ next ∷ rest ≡ report → puts_of done ≡ []
none_put graph cnf seen status report (encodes.read x) done next rest order =
    front_puts x.bytes cnf status report x.encoding done next rest order
none_put graph cnf seen status report (encodes.absent x) done next rest order =
    ap puts_of (none_done done next rest _ (order ∙ x.report_is))
none_put graph cnf seen status report (encodes.unread x) done next rest order =
    ap puts_of (none_done done next rest _ (order ∙ x.report_is))

encoding_writes : (bytes cnf : List ℕ) (status : Status) (report : List Delivery) → IsEncoding bytes cnf status report
    → (status ≡ s.Passed → ⊥) → writes_of report ≡ []
encoding_writes bytes cnf status report (encodes.clauses said text is c e r) other = absurd (other e)
encoding_writes bytes cnf status report (encodes.refused fault cause e r) other = ap writes_of r

-- no file is written under another status
none_written : (graph cnf : List ℕ) (seen : Seen) (status : Status) (report : List Delivery)
    → Encodes graph cnf seen status report → (status ≡ s.Passed → ⊥) → writes_of report ≡ []
none_written graph cnf seen status report (encodes.read x) other =
    encoding_writes x.bytes cnf status report x.encoding other
none_written graph cnf seen status report (encodes.absent x) other = ap writes_of x.report_is
none_written graph cnf seen status report (encodes.unread x) other = ap writes_of x.report_is

pub nothing_encoded : (before now : Outside) (cnf : List ℕ) (said : Said) (text : List ℕ)
    → now.written ≡ before.written → Delivers before now (graph_report cnf said text) → ⊥
nothing_encoded before now cnf said text same d =
    nothing_written before now cnf text (graph_line (length said.inputs) (length said.gates)) d same

-- ---- what want of memory left

module _ (before middle now : Outside) (earlier : IsEarlier before middle) (graph cnf : List ℕ) (seen : Seen) where
  left_of : (put : Result (Unit {0}) OutFault) (report : Report)
      → Encodes graph cnf seen report.status report.deliveries → LeavesOne put middle now report.deliveries
      → ends put report.status ≡ s.Memory → (said : Said) (text : List ℕ)
      → Delivers before now (graph_report cnf said text) → ⊥
  left_of (Ok u) report says left is said text d =
      subst IsOwn is (own_encoded graph cnf seen report.status report.deliveries says)
  left_of (Err out.Failed) report says left is said text d = let no : s.WriteFault ≡ s.Memory = is in cc
  left_of (Err out.Memory) report says left is said text d =
      some_put before now cnf text (graph_line (length said.inputs) (length said.gates)) d left.done
      (later_delivers before middle now earlier left.done left.delivered).pass
      (none_put graph cnf seen report.status report.deliveries says left.done left.next left.rest left.order)

  pub graph_left : (made : Result Report Memory) (status : Status)
      → IfOk made (λ report. Encodes graph cnf seen report.status report.deliveries) → Puts made status middle now
      → status ≡ s.Memory → (said : Said) (text : List ℕ) → Delivers before now (graph_report cnf said text) → ⊥
  graph_left (Ok report) status says put is said text d =
      left_of put.delivered report says put.left (sym put.status_is ∙ is) said text d
  graph_left (Err fault) status says put is said text d =
      some_put before now cnf text (graph_line (length said.inputs) (length said.gates)) d []
      (later_delivers before middle now earlier [] put.1).pass refl

-- ---- both ways

module _ (graph cnf : List ℕ) (r : Run) where
  encoded_of : (report : List Delivery) → Encodes graph cnf (seen_in r) s.Passed report → Delivers r.before r.now report
      → IsEncoded graph cnf r
  encoded_of report (encodes.read x) d = of_bytes x.encoding where
    of_bytes : IsEncoding x.bytes cnf s.Passed report → IsEncoded graph cnf r
    of_bytes (encodes.clauses said text is c e p) = record {
      bytes = x.bytes;
      gives = x.gives;
      said = said;
      says = is;
      text = text;
      clauses = c;
      delivered = subst (λ ds. Delivers r.before r.now ds) p d;
    }
    of_bytes (encodes.refused fault cause e p) = absurd (let no : s.Passed ≡ s.Refused = e in cc)
  encoded_of report (encodes.absent x) d = absurd (let no : s.Passed ≡ s.Absent = x.status_is in cc)
  encoded_of report (encodes.unread x) d = absurd (let no : s.Passed ≡ s.ReadFault = x.status_is in cc)

  -- of another status nothing was written
  other_status : (status : Status) → (status ≡ s.Passed → ⊥)
      → Reports (Some (words.Fromaig graph cnf)) r status → IsEncoded graph cnf r → ⊥
  other_status status other x h =
      some_written r.before r.now cnf h.text (graph_line (length h.said.inputs) (length h.said.gates)) h.delivered x.report x.delivered.pass
      (none_written graph cnf (seen_in r) status x.report x.says other)

  broken_puts : (report : List Delivery) → IsReport (Some (words.Fromaig graph cnf)) (seen_in r) report
      → (done : List Delivery) (next : Delivery) (rest : List Delivery) → done ++ next ∷ rest ≡ report
      → puts_of done ≡ []
  broken_puts report (whole status says) done next rest order =
      none_put graph cnf (seen_in r) status report says done next rest order
  broken_puts report (begun x) done next rest order = absurd x
  broken_puts report (nothing none) done next rest order = absurd (never_empty done next rest (order ∙ none))

  passes_encoded : (status : Status) → Ends (Some (words.Fromaig graph cnf)) r status → LeavesGraph cnf r status
      → IsEncoded graph cnf r → status ≡ s.Passed
  passes_encoded s.Passed x left h = refl
  passes_encoded s.Failing x left h = absurd (other_status s.Failing (λ e. cc) x h)
  passes_encoded s.Spent x left h = absurd (other_status s.Spent (λ e. cc) x h)
  passes_encoded s.Usage x left h = absurd (other_status s.Usage (λ e. cc) x h)
  passes_encoded s.Config x left h = absurd (other_status s.Config (λ e. cc) x h)
  passes_encoded s.Source x left h = absurd (other_status s.Source (λ e. cc) x h)
  passes_encoded s.Absent x left h = absurd (other_status s.Absent (λ e. cc) x h)
  passes_encoded s.ReadFault x left h = absurd (other_status s.ReadFault (λ e. cc) x h)
  passes_encoded s.WriteFault x left h =
      absurd (some_put r.before r.now cnf h.text (graph_line (length h.said.inputs) (length h.said.gates)) h.delivered x.fails.done
      (part_pass r.before r.now x.fails.done x.fails.failing x.fails.part)
      (broken_puts x.report x.is x.fails.done x.fails.failing x.fails.rest x.fails.order))
  passes_encoded s.Heavy x left h = absurd (other_status s.Heavy (λ e. cc) x h)
  passes_encoded s.Refused x left h = absurd (other_status s.Refused (λ e. cc) x h)
  passes_encoded s.Memory x left h = absurd (left refl h.said h.text h.delivered)

  passed_encoded : Reports (Some (words.Fromaig graph cnf)) r s.Passed → IsEncoded graph cnf r
  passed_encoded x = encoded_of x.report x.says x.delivered

pub encoded_exact : (graph cnf : List ℕ) (r : Run) (status : Status) → Answers status r
    → HaveStatus (line_of r.words) r status → line_of r.words ≡ Some (words.Fromaig graph cnf)
    → (status ≡ s.Passed) ↔ IsEncoded graph cnf r
encoded_exact graph cnf r status a statuses is =
    let ended : Ends (Some (words.Fromaig graph cnf)) r status = subst (λ line. Ends line r status) is a in
    let left : Leaves (Some (words.Fromaig graph cnf)) r status =
    subst (λ line. Leaves line r status) is statuses.leaves in (
      λ passed. passed_encoded graph cnf r
          (subst (λ x. Ends (Some (words.Fromaig graph cnf)) r x) passed ended),
      passes_encoded graph cnf r status ended left,
    )
