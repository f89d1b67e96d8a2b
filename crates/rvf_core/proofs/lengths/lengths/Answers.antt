use Rattle.std.proofs.Common.{◌≡◌, ◌∙◌, Some, arith, refl}
use Rattle.rvf_case.specs.Cases.{Request}
use Rattle.rvf_checks.specs.declared.wording.Wording.TheVariants as wording
use Rattle.rvf_report.specs.Outcome.{outside}
use Rattle.rvf_words.specs.declared.line.Line.TheVariants as words
use Rattle.rvf_core.specs.Lengths.{length_request}
use Rattle.rvf_core.specs.Tasks.{Task}
use Rattle.rvf_core.specs.Works.{options_seen}
use Rattle.rvf_core.proofs.Asking.{no_statuses, run_between}
use Rattle.rvf_core.proofs.FromChecks.{case_statuses, le_itself, refusal_statuses}
use Rattle.rvf_core.proofs.FromFiles.{if_both, if_ok}
use Rattle.rvf_core.proofs.LengthEndings.{lengths_end, lengths_refused}
use Rattle.rvf_core.proofs.Quiet.{put_counts, refusal_tells, unbroken_counts}
use Rattle.rvf_core.proofs.lengths.lengths.Goals as goal

-- a task with this request
abbrev task_for : Request → Task
task_for q = record { request = q; wording = wording.Run; folder = q.cfg; budget = 0; cubes = 0 }

pub inducted-requires-clause-asked : goal.inducted-requires-clause-asked
inducted-requires-clause-asked g c κs lives = c.in-Ok.ensures.comes.came.questions_are

pub returns-in-Ok-clause-ends : goal.returns-in-Ok-clause-ends
returns-in-Ok-clause-ends g c = λ asked.
    let before = outside (g.F.Files.state c.args.files.now) (g.O.Out.state c.args.out.now) in
    let middle = outside (g.F.Files.state c.prepare.new.files) (g.O.Out.state c.args.out.now) in
    let now = outside (g.F.Files.state c.inducted.new.files) (g.O.Out.state c.inducted.new.out) in
    let o = options_seen c.args.order.now in
    let steps = c.args.order.now.steps in
    lengths_end o steps asked before middle now c.in-Ok.ensures.kept refl c.in-Ok.ensures.unwritten refl
    c.in-Ok.ensures.faults_grow (le_itself (g.O.Out.state c.args.out.now).faults)
    c.inductions_are_the_sources.ensures c.in-Ok.case c.inducted.result c.in-Ok.ensures.comes.came
    c.in-Ok.ensures.comes.heard c.inducted.ensures.unheard c.in-Ok.ensures.ready c.inducted.ensures.concluded

pub returns-in-Ok-clause-statuses : goal.returns-in-Ok-clause-statuses
returns-in-Ok-clause-statuses g c = λ asked.
    let before = outside (g.F.Files.state c.args.files.now) (g.O.Out.state c.args.out.now) in
    let middle = outside (g.F.Files.state c.prepare.new.files) (g.O.Out.state c.args.out.now) in
    let now = outside (g.F.Files.state c.inducted.new.files) (g.O.Out.state c.inducted.new.out) in
    let o = options_seen c.args.order.now in
    let steps = c.args.order.now.steps in
    no_statuses (Some (words.Induct o steps)) (run_between asked before now) c.inducted.result refl
    (case_statuses (task_for (length_request o steps)) asked before middle now c.in-Ok.ensures.kept refl
    c.in-Ok.ensures.unwritten refl c.in-Ok.ensures.faults_grow (le_itself (g.O.Out.state c.args.out.now).faults)
    c.in-Ok.case c.inducted.result c.in-Ok.ensures.exact c.inducted.ensures.misses_kept)

pub returns-in-Ok-clause-counts : goal.returns-in-Ok-clause-counts
returns-in-Ok-clause-counts g c =
    unbroken_counts c.inducted.result
    (outside (g.F.Files.state c.args.files.now) (g.O.Out.state c.args.out.now))
    (outside (g.F.Files.state c.inducted.new.files) (g.O.Out.state c.inducted.new.out))
    (((g.F.Files.state c.inducted.new.files).faults ≡ (g.F.Files.state c.prepare.new.files).faults)
    × ((g.O.Out.state c.inducted.new.out).faults ≡ (g.O.Out.state c.args.out.now).faults))
    (λ same. (same.0 ∙ c.in-Ok.ensures.quiet, same.1)) c.inducted.ensures.quiet

pub returns-in-Err-clause-ends : goal.returns-in-Err-clause-ends
returns-in-Err-clause-ends g c = λ asked.
    let before = outside (g.F.Files.state c.args.files.now) (g.O.Out.state c.args.out.now) in
    let middle = outside (g.F.Files.state c.prepare.new.files) (g.O.Out.state c.args.out.now) in
    let now = outside (g.F.Files.state c.put_report.new.files) (g.O.Out.state c.put_report.new.out) in
    let o = options_seen c.args.order.now in
    let steps = c.args.order.now.steps in
    lengths_refused o steps asked before middle now c.in-Err.ensures.kept refl c.in-Err.ensures.unwritten refl
    c.in-Err.ensures.faults_grow (le_itself (g.O.Out.state c.args.out.now).faults)
    c.in-Err.refusal c.refused.result c.put_report.result c.in-Err.ensures.comes.came c.in-Err.ensures.comes.heard
    c.put_report.ensures.unheard (omega (arith, c.put_report.ensures.misses_kept)) c.put_report.ensures.faults_grow
    (if_both _ _ c.refused.result c.refused.ensures.report c.refused.ensures.some) c.put_report.ensures.puts

pub returns-in-Err-clause-statuses : goal.returns-in-Err-clause-statuses
returns-in-Err-clause-statuses g c = λ asked.
    let before = outside (g.F.Files.state c.args.files.now) (g.O.Out.state c.args.out.now) in
    let middle = outside (g.F.Files.state c.prepare.new.files) (g.O.Out.state c.args.out.now) in
    let now = outside (g.F.Files.state c.put_report.new.files) (g.O.Out.state c.put_report.new.out) in
    let o = options_seen c.args.order.now in
    let steps = c.args.order.now.steps in
    no_statuses (Some (words.Induct o steps)) (run_between asked before now) c.put_report.result refl
    (refusal_statuses (task_for (length_request o steps)) asked before middle now c.in-Err.ensures.kept refl
    c.in-Err.ensures.unwritten refl c.in-Err.ensures.faults_grow (le_itself (g.O.Out.state c.args.out.now).faults)
    c.in-Err.refusal c.refused.result c.put_report.result c.in-Err.ensures.exact c.put_report.ensures.misses_kept
    c.put_report.ensures.faults_grow c.in-Err.ensures.comes.came
    (if_both _ _ c.refused.result c.refused.ensures.report c.refused.ensures.some) c.put_report.ensures.puts)

pub returns-in-Err-clause-counts : goal.returns-in-Err-clause-counts
returns-in-Err-clause-counts g c =
    put_counts
    (outside (g.F.Files.state c.args.files.now) (g.O.Out.state c.args.out.now))
    (outside (g.F.Files.state c.prepare.new.files) (g.O.Out.state c.args.out.now))
    (outside (g.F.Files.state c.put_report.new.files) (g.O.Out.state c.put_report.new.out))
    (record {
      held = c.in-Err.ensures.kept;
      sent = refl;
      written = c.in-Err.ensures.unwritten;
      taken = refl;
      faults = c.in-Err.ensures.faults_grow;
      out_faults = le_itself (g.O.Out.state c.args.out.now).faults;
    })
    refl c.refused.result c.put_report.result
    (if_ok _ _ (λ report is. refusal_tells c.in-Err.refusal _ _ report c.in-Err.ensures.quiet is) c.refused.result
    (if_both _ _ c.refused.result c.refused.ensures.report c.refused.ensures.some))
    c.put_report.ensures.puts c.put_report.ensures.quiet
