-- The graph of a check passes exactly where its file and the line came through.
use Rattle.std.specs.Prelude.{◌↔◌}
use Rattle.std.proofs.Common.{◌≡◌, ℕ, List, [], ◌∷◌, ◌++◌, Some, Result, Ok, Err, IfOk, refl, sym, ap, ◌∙◌, subst}
use Rattle.fv_base.specs.declared.out.OutFault.{OutFault}
use Rattle.fv_base.specs.declared.out.OutFault.TheVariants as out
use Rattle.fv_text.specs.declared.memory.Memory.{Memory}
use Rattle.rvf_words.specs.Line.{line_of}
use Rattle.rvf_words.specs.declared.line.Line.{Line as Words}
use Rattle.rvf_words.specs.declared.line.Line.TheVariants as words
use Rattle.rvf_case.specs.Cases.{Request, Seen}
use Rattle.rvf_case.specs.declared.refusal.Refusal.{Refusal}
use Rattle.rvf_case.specs.declared.refusal.Refusal.TheVariants as refusal
use Rattle.rvf_graph.specs.declared.text.GraphText.{GraphText}
use Rattle.rvf_report.specs.Outcome.{Outside, Delivers, LeavesOne, puts_of, writes_of}
use Rattle.rvf_report.specs.Status.{ends}
use Rattle.rvf_report.specs.declared.delivery.Delivery.{Delivery}
use Rattle.rvf_report.specs.declared.status.Status.{Status}
use Rattle.rvf_report.specs.declared.status.Status.TheVariants as s
use Rattle.rvf_core.specs.Checks.{refused_status}
use Rattle.rvf_core.specs.Encodes.{graph_line}
use Rattle.rvf_core.specs.Exports.{Exports, check_request, graph_file}
use Rattle.rvf_core.specs.Exports as exports
use Rattle.rvf_core.specs.Puts.{Puts}
use Rattle.rvf_core.specs.Run.{Answers, Ends, IsMade, IsReport, Reports, Run, begun, nothing, seen_in, whole}
use Rattle.rvf_core.specs.Steps.{HaveGraph, HaveStatus, Leaves}
use Rattle.rvf_core.specs.declared.report.Report.{Report}
use Rattle.rvf_core.proofs.Endings.{IsOwn}
use Rattle.rvf_core.proofs.ExportLaws.{own_exported}
use Rattle.rvf_core.proofs.Halves.{front_of_two, some_put, some_written}
use Rattle.rvf_core.proofs.Later.{IsEarlier, later_delivers, part_pass}
use Rattle.rvf_core.proofs.Quiet.{never_empty, none_done}

-- a refusal doesn't pass
refused_apart : (f : Refusal) → s.Passed ≡ refused_status f → ⊥
refused_apart (refusal.Absent name) e = cc
refused_apart (refusal.Unread name) e = cc
refused_apart (refusal.Config f) e = cc
refused_apart (refusal.NoCheck name) e = cc
refused_apart (refusal.Source f names) e = cc
refused_apart (refusal.Heavy name number) e = cc
refused_apart refusal.Memory e = cc

module _ (cfg name file core basedir : List ℕ) where
  abbrev line : Words
  line = words.Toaig cfg name file core basedir

  abbrev q : Request
  q = check_request cfg name core basedir

  -- no line of a report was put of which not all came through
  none_put : (seen : Seen) (status : Status) (report : List Delivery)
      → Exports cfg name file core basedir seen status report → (done : List Delivery) (next : Delivery)
      (rest : List Delivery) → done ++ next ∷ rest ≡ report → puts_of done ≡ []
  none_put seen status report (exports.exported x) done next rest order =
      front_of_two done next rest file x.made.text (graph_line x.made.inputs x.made.gates) (order ∙ x.report_is)
  none_put seen status report (exports.refused x) done next rest order =
      ap puts_of (none_done done next rest _ (order ∙ x.report_is))

  -- no file is written under another status
  none_written : (seen : Seen) (status : Status) (report : List Delivery)
      → Exports cfg name file core basedir seen status report → (status ≡ s.Passed → ⊥) → writes_of report ≡ []
  none_written seen status report (exports.exported x) other = absurd (other x.status_is)
  none_written seen status report (exports.refused x) other = ap writes_of x.report_is

  -- ---- what want of memory left

  module _ (before middle now : Outside) (earlier : IsEarlier before middle) (seen : Seen) where
    left_of : (put : Result (Unit {0}) OutFault) (report : Report)
        → Exports cfg name file core basedir seen report.status report.deliveries
        → LeavesOne put middle now report.deliveries → ends put report.status ≡ s.Memory → (t : GraphText)
        → Delivers before now (graph_file file t) → ⊥
    left_of (Ok u) report says left is t d =
        subst IsOwn is (own_exported cfg name file core basedir seen report.status report.deliveries says)
    left_of (Err out.Failed) report says left is t d = let no : s.WriteFault ≡ s.Memory = is in cc
    left_of (Err out.Memory) report says left is t d =
        some_put before now file t.text (graph_line t.inputs t.gates) d left.done
        (later_delivers before middle now earlier left.done left.delivered).pass
        (none_put seen report.status report.deliveries says left.done left.next left.rest left.order)

    pub file_left : (made : Result Report Memory) (status : Status)
        → IfOk made (λ report. Exports cfg name file core basedir seen report.status report.deliveries)
        → Puts made status middle now → status ≡ s.Memory → (t : GraphText)
        → Delivers before now (graph_file file t) → ⊥
    file_left (Ok report) status says put is t d =
        left_of put.delivered report says put.left (sym put.status_is ∙ is) t d
    file_left (Err fault) status says put is t d =
        some_put before now file t.text (graph_line t.inputs t.gates) d []
        (later_delivers before middle now earlier [] put.1).pass refl

  -- ---- both ways

  module _ (r : Run) where
    made_of : (report : List Delivery) → Exports cfg name file core basedir (seen_in r) s.Passed report
        → Delivers r.before r.now report → IsMade cfg name file core basedir r
    made_of report (exports.exported x) d = record { report = report; exported = x; delivered = d }
    made_of report (exports.refused x) d = absurd (refused_apart x.refusal x.status_is)

    -- so a file was written and a line put
    abbrev text_of : IsMade cfg name file core basedir r → GraphText
    text_of h = h.exported.made

    both_came : (h : IsMade cfg name file core basedir r) → Delivers r.before r.now (graph_file file (text_of h))
    both_came h = subst (λ ds. Delivers r.before r.now ds) h.exported.report_is h.delivered

    -- of another status nothing was written
    other_status : (status : Status) → (status ≡ s.Passed → ⊥) → Reports (Some line) r status
        → IsMade cfg name file core basedir r → ⊥
    other_status status other x h =
        let t = text_of h in
        some_written r.before r.now file t.text (graph_line t.inputs t.gates) (both_came h) x.report x.delivered.pass
        (none_written (seen_in r) status x.report x.says other)

    broken_puts : (report : List Delivery) → IsReport (Some line) (seen_in r) report → (done : List Delivery)
        (next : Delivery) (rest : List Delivery) → done ++ next ∷ rest ≡ report → puts_of done ≡ []
    broken_puts report (whole status says) done next rest order =
        none_put (seen_in r) status report says done next rest order
    broken_puts report (begun x) done next rest order = absurd x
    broken_puts report (nothing none) done next rest order = absurd (never_empty done next rest (order ∙ none))

    passes_made : (status : Status) → Ends (Some line) r status → HaveGraph q file r status
        → IsMade cfg name file core basedir r → status ≡ s.Passed
    passes_made s.Passed x left h = refl
    passes_made s.Failing x left h = absurd (other_status s.Failing (λ e. cc) x h)
    passes_made s.Spent x left h = absurd (other_status s.Spent (λ e. cc) x h)
    passes_made s.Usage x left h = absurd (other_status s.Usage (λ e. cc) x h)
    passes_made s.Config x left h = absurd (other_status s.Config (λ e. cc) x h)
    passes_made s.Source x left h = absurd (other_status s.Source (λ e. cc) x h)
    passes_made s.Absent x left h = absurd (other_status s.Absent (λ e. cc) x h)
    passes_made s.ReadFault x left h = absurd (other_status s.ReadFault (λ e. cc) x h)
    passes_made s.WriteFault x left h =
        let t = text_of h in
        absurd (some_put r.before r.now file t.text (graph_line t.inputs t.gates) (both_came h) x.fails.done
        (part_pass r.before r.now x.fails.done x.fails.failing x.fails.part)
        (broken_puts x.report x.is x.fails.done x.fails.failing x.fails.rest x.fails.order))
    passes_made s.Heavy x left h = absurd (other_status s.Heavy (λ e. cc) x h)
    passes_made s.Refused x left h = absurd (other_status s.Refused (λ e. cc) x h)
    passes_made s.Memory x left h = absurd (left.leaves refl (text_of h) (both_came h))

    passed_made : Reports (Some line) r s.Passed → IsMade cfg name file core basedir r
    passed_made x = made_of x.report x.says x.delivered

    -- what is known of the run's status under these words
    pub graph_known : (status : Status) → HaveStatus (line_of r.words) r status → line_of r.words ≡ Some line
        → HaveGraph q file r status
    graph_known status statuses is = subst (λ asked. Leaves asked r status) is statuses.leaves

    pub made_exact : (status : Status) → Answers status r → HaveStatus (line_of r.words) r status
        → line_of r.words ≡ Some line → (status ≡ s.Passed) ↔ IsMade cfg name file core basedir r
    made_exact status a statuses is =
        let ended : Ends (Some line) r status = subst (λ asked. Ends asked r status) is a in (
          λ passed. passed_made (subst (λ x. Ends (Some line) r x) passed ended),
          passes_made status ended (graph_known status statuses is),
        )
