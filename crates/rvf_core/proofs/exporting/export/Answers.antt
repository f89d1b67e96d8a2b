use Rattle.std.proofs.Common.{◌≡◌, ◌∙◌, arith, refl, subst, sym}
use Rattle.rvf_case.specs.Cases.{Request}
use Rattle.rvf_case.specs.Hearing.{IsReadOn}
use Rattle.rvf_case.proofs.Files.{heard_so}
use Rattle.rvf_case.proofs.Fronts.{case_on, read_on}
use Rattle.rvf_checks.specs.declared.wording.Wording.TheVariants as wording
use Rattle.rvf_report.specs.Outcome.{outside}
use Rattle.rvf_core.specs.Exports.{check_request}
use Rattle.rvf_core.specs.Steps.{all_read}
use Rattle.rvf_core.specs.Tasks.{Task}
use Rattle.rvf_core.proofs.ExportLaws.{case_exports, one_question, refusal_exports}
use Rattle.rvf_core.proofs.FromChecks.{case_statuses, le_itself, refusal_statuses, seen_from}
use Rattle.rvf_core.proofs.FromFiles.{if_both, if_ok}
use Rattle.rvf_core.proofs.FromWords.{export_ends, export_leaves}
use Rattle.rvf_core.proofs.Quiet.{put_counts, refusal_tells}
use Rattle.rvf_core.proofs.exporting.export.Goals as goal

-- a task with this request
abbrev task_for : Request → Task
task_for q = record { request = q; wording = wording.Run; folder = q.cfg; budget = 0; cubes = 0 }

pub exported-requires-clause-ready : goal.exported-requires-clause-ready
exported-requires-clause-ready g c = c.in-Ok.ensures.ready

pub exported-requires-clause-one : goal.exported-requires-clause-one
exported-requires-clause-one g c =
    one_question c.args.order.now.cfg.now c.args.order.now.check.now c.args.order.now.file.now
    c.args.order.now.core.now c.args.order.now.basedir.now (g.F.Files.state c.args.files.now).held c.in-Ok.case
    c.in-Ok.ensures.comes.came

pub returns-in-Ok-clause-ends : goal.returns-in-Ok-clause-ends
returns-in-Ok-clause-ends g c = λ asked.
    let before = outside (g.F.Files.state c.args.files.now) (g.O.Out.state c.args.out.now) in
    let middle = outside (g.F.Files.state c.prepare.new.files) (g.O.Out.state c.args.out.now) in
    let now = outside (g.F.Files.state c.put_report.new.files) (g.O.Out.state c.put_report.new.out) in
    let o = c.args.order.now in
    let q : Request = check_request o.cfg.now o.check.now o.core.now o.basedir.now in
    export_ends asked before middle now c.in-Ok.ensures.kept refl c.in-Ok.ensures.unwritten refl
    c.in-Ok.ensures.faults_grow (le_itself (g.O.Out.state c.args.out.now).faults)
    (omega (arith, c.put_report.ensures.misses_kept)) c.put_report.ensures.faults_grow c.put_report.ensures.unheard
    o.cfg.now o.check.now o.file.now o.core.now o.basedir.now c.exported.result c.put_report.result
    (if_ok _ _ (λ report h. case_exports o.cfg.now o.check.now o.file.now o.core.now o.basedir.now
    c.graphs_are_the_sources.ensures (seen_from before middle) before.heard middle.heard c.in-Ok.case
    c.in-Ok.ensures.comes.came c.in-Ok.ensures.ready c.in-Ok.ensures.comes.heard report h) c.exported.result
    c.exported.ensures)
    c.put_report.ensures.puts
    (heard_so _ _ c.in-Ok.ensures.comes.heard (λ events is. subst (IsReadOn q) (sym is)
    (case_on q before.held c.in-Ok.case c.in-Ok.ensures.comes.came)))

pub returns-in-Ok-clause-statuses : goal.returns-in-Ok-clause-statuses
returns-in-Ok-clause-statuses g c = λ asked.
    let before = outside (g.F.Files.state c.args.files.now) (g.O.Out.state c.args.out.now) in
    let middle = outside (g.F.Files.state c.prepare.new.files) (g.O.Out.state c.args.out.now) in
    let now = outside (g.F.Files.state c.put_report.new.files) (g.O.Out.state c.put_report.new.out) in
    let o = c.args.order.now in
    let q : Request = check_request o.cfg.now o.check.now o.core.now o.basedir.now in
    export_leaves asked before middle now c.in-Ok.ensures.kept refl c.in-Ok.ensures.unwritten refl
    c.in-Ok.ensures.faults_grow (le_itself (g.O.Out.state c.args.out.now).faults)
    (omega (arith, c.put_report.ensures.misses_kept)) c.put_report.ensures.faults_grow c.put_report.ensures.unheard
    o.cfg.now o.check.now o.file.now o.core.now o.basedir.now c.exported.result c.put_report.result
    (if_ok _ _ (λ report h. case_exports o.cfg.now o.check.now o.file.now o.core.now o.basedir.now
    c.graphs_are_the_sources.ensures (seen_from before middle) before.heard middle.heard c.in-Ok.case
    c.in-Ok.ensures.comes.came c.in-Ok.ensures.ready c.in-Ok.ensures.comes.heard report h) c.exported.result
    c.exported.ensures)
    c.put_report.ensures.puts
    (case_statuses (task_for q) asked before middle now c.in-Ok.ensures.kept refl c.in-Ok.ensures.unwritten refl
    c.in-Ok.ensures.faults_grow (le_itself (g.O.Out.state c.args.out.now).faults) c.in-Ok.case
    c.put_report.result c.in-Ok.ensures.exact c.put_report.ensures.misses_kept)

pub returns-in-Ok-clause-counts : goal.returns-in-Ok-clause-counts
returns-in-Ok-clause-counts g c =
    put_counts
    (outside (g.F.Files.state c.args.files.now) (g.O.Out.state c.args.out.now))
    (outside (g.F.Files.state c.prepare.new.files) (g.O.Out.state c.args.out.now))
    (outside (g.F.Files.state c.put_report.new.files) (g.O.Out.state c.put_report.new.out))
    (record {
      held = c.in-Ok.ensures.kept;
      sent = refl;
      written = c.in-Ok.ensures.unwritten;
      taken = refl;
      faults = c.in-Ok.ensures.faults_grow;
      out_faults = le_itself (g.O.Out.state c.args.out.now).faults;
    })
    refl c.exported.result c.put_report.result
    (if_ok _ _ (λ report h. all_read c.in-Ok.ensures.quiet) c.exported.result c.exported.ensures)
    c.put_report.ensures.puts c.put_report.ensures.quiet

pub returns-in-Err-clause-ends : goal.returns-in-Err-clause-ends
returns-in-Err-clause-ends g c = λ asked.
    let before = outside (g.F.Files.state c.args.files.now) (g.O.Out.state c.args.out.now) in
    let middle = outside (g.F.Files.state c.prepare.new.files) (g.O.Out.state c.args.out.now) in
    let now = outside (g.F.Files.state c.put_report-in-Err.new.files) (g.O.Out.state c.put_report-in-Err.new.out) in
    let o = c.args.order.now in
    let q : Request = check_request o.cfg.now o.check.now o.core.now o.basedir.now in
    export_ends asked before middle now c.in-Err.ensures.kept refl c.in-Err.ensures.unwritten refl
    c.in-Err.ensures.faults_grow (le_itself (g.O.Out.state c.args.out.now).faults)
    (omega (arith, c.put_report-in-Err.ensures.misses_kept)) c.put_report-in-Err.ensures.faults_grow
    c.put_report-in-Err.ensures.unheard
    o.cfg.now o.check.now o.file.now o.core.now o.basedir.now c.refused.result c.put_report-in-Err.result
    (if_ok _ _ (λ report p. refusal_exports o.cfg.now o.check.now o.file.now o.core.now o.basedir.now
    (seen_from before middle) before.heard middle.heard c.in-Err.refusal c.in-Err.ensures.comes.came
    c.in-Err.ensures.comes.heard report p) c.refused.result
    (if_both _ _ c.refused.result c.refused.ensures.report c.refused.ensures.some))
    c.put_report-in-Err.ensures.puts
    (heard_so _ _ c.in-Err.ensures.comes.heard
    (λ events is. read_on c.in-Err.refusal q (seen_from before middle) c.in-Err.ensures.comes.came events is))

pub returns-in-Err-clause-statuses : goal.returns-in-Err-clause-statuses
returns-in-Err-clause-statuses g c = λ asked.
    let before = outside (g.F.Files.state c.args.files.now) (g.O.Out.state c.args.out.now) in
    let middle = outside (g.F.Files.state c.prepare.new.files) (g.O.Out.state c.args.out.now) in
    let now = outside (g.F.Files.state c.put_report-in-Err.new.files) (g.O.Out.state c.put_report-in-Err.new.out) in
    let o = c.args.order.now in
    let q : Request = check_request o.cfg.now o.check.now o.core.now o.basedir.now in
    export_leaves asked before middle now c.in-Err.ensures.kept refl c.in-Err.ensures.unwritten refl
    c.in-Err.ensures.faults_grow (le_itself (g.O.Out.state c.args.out.now).faults)
    (omega (arith, c.put_report-in-Err.ensures.misses_kept)) c.put_report-in-Err.ensures.faults_grow
    c.put_report-in-Err.ensures.unheard
    o.cfg.now o.check.now o.file.now o.core.now o.basedir.now c.refused.result c.put_report-in-Err.result
    (if_ok _ _ (λ report p. refusal_exports o.cfg.now o.check.now o.file.now o.core.now o.basedir.now
    (seen_from before middle) before.heard middle.heard c.in-Err.refusal c.in-Err.ensures.comes.came
    c.in-Err.ensures.comes.heard report p) c.refused.result
    (if_both _ _ c.refused.result c.refused.ensures.report c.refused.ensures.some))
    c.put_report-in-Err.ensures.puts
    (refusal_statuses (task_for q) asked before middle now c.in-Err.ensures.kept refl c.in-Err.ensures.unwritten refl
    c.in-Err.ensures.faults_grow (le_itself (g.O.Out.state c.args.out.now).faults) c.in-Err.refusal
    c.refused.result c.put_report-in-Err.result c.in-Err.ensures.exact c.put_report-in-Err.ensures.misses_kept
    c.put_report-in-Err.ensures.faults_grow c.in-Err.ensures.comes.came
    (if_both _ _ c.refused.result c.refused.ensures.report c.refused.ensures.some) c.put_report-in-Err.ensures.puts)

pub returns-in-Err-clause-counts : goal.returns-in-Err-clause-counts
returns-in-Err-clause-counts g c =
    put_counts
    (outside (g.F.Files.state c.args.files.now) (g.O.Out.state c.args.out.now))
    (outside (g.F.Files.state c.prepare.new.files) (g.O.Out.state c.args.out.now))
    (outside (g.F.Files.state c.put_report-in-Err.new.files) (g.O.Out.state c.put_report-in-Err.new.out))
    (record {
      held = c.in-Err.ensures.kept;
      sent = refl;
      written = c.in-Err.ensures.unwritten;
      taken = refl;
      faults = c.in-Err.ensures.faults_grow;
      out_faults = le_itself (g.O.Out.state c.args.out.now).faults;
    })
    refl c.refused.result c.put_report-in-Err.result
    (if_ok _ _ (λ report is. refusal_tells c.in-Err.refusal _ _ report c.in-Err.ensures.quiet is) c.refused.result
    (if_both _ _ c.refused.result c.refused.ensures.report c.refused.ensures.some))
    c.put_report-in-Err.ensures.puts c.put_report-in-Err.ensures.quiet
