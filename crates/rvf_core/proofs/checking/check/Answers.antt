use Rattle.std.proofs.Common.{◌≡◌, ◌∙◌, arith, refl}
use Rattle.rvf_report.specs.Outcome.{outside}
use Rattle.rvf_core.specs.Works.{task_seen}
use Rattle.rvf_core.proofs.FromChecks.{case_ends, case_statuses, le_itself, refusal_ends, refusal_statuses}
use Rattle.rvf_core.proofs.FromFiles.{if_both, if_ok}
use Rattle.rvf_core.proofs.Quiet.{put_counts, refusal_tells, unbroken_counts}
use Rattle.rvf_core.proofs.checking.check.Goals as goal

pub returns-in-Ok-clause-ends : goal.returns-in-Ok-clause-ends
returns-in-Ok-clause-ends g c = λ line is_task asked.
    case_ends (task_seen c.args.work.now) asked
    (outside (g.F.Files.state c.args.files.now) (g.O.Out.state c.args.out.now))
    (outside (g.F.Files.state c.prepare.new.files) (g.O.Out.state c.args.out.now))
    (outside (g.F.Files.state c.judged.new.files) (g.O.Out.state c.judged.new.out))
    c.in-Ok.ensures.kept refl c.in-Ok.ensures.unwritten refl c.in-Ok.ensures.faults_grow
    (le_itself (g.O.Out.state c.args.out.now).faults) line is_task c.judgements_are_the_sources.ensures c.in-Ok.case
    c.judged.result c.in-Ok.ensures.comes.came c.in-Ok.ensures.comes.heard c.judged.ensures.unheard
    c.in-Ok.ensures.ready c.judged.ensures.concluded

pub returns-in-Ok-clause-causes : goal.returns-in-Ok-clause-causes
returns-in-Ok-clause-causes g c = λ asked.
    case_statuses (task_seen c.args.work.now) asked
    (outside (g.F.Files.state c.args.files.now) (g.O.Out.state c.args.out.now))
    (outside (g.F.Files.state c.prepare.new.files) (g.O.Out.state c.args.out.now))
    (outside (g.F.Files.state c.judged.new.files) (g.O.Out.state c.judged.new.out))
    c.in-Ok.ensures.kept refl c.in-Ok.ensures.unwritten refl
    c.in-Ok.ensures.faults_grow (le_itself (g.O.Out.state c.args.out.now).faults) c.in-Ok.case
    c.judged.result c.in-Ok.ensures.exact
    c.judged.ensures.misses_kept

pub returns-in-Err-clause-ends : goal.returns-in-Err-clause-ends
returns-in-Err-clause-ends g c = λ line is_task asked.
    refusal_ends (task_seen c.args.work.now) asked
    (outside (g.F.Files.state c.args.files.now) (g.O.Out.state c.args.out.now))
    (outside (g.F.Files.state c.prepare.new.files) (g.O.Out.state c.args.out.now))
    (outside (g.F.Files.state c.put_report.new.files) (g.O.Out.state c.put_report.new.out))
    c.in-Err.ensures.kept refl c.in-Err.ensures.unwritten refl c.in-Err.ensures.faults_grow
    (le_itself (g.O.Out.state c.args.out.now).faults) line is_task c.in-Err.refusal c.refused.result
    c.put_report.result c.in-Err.ensures.comes.came c.in-Err.ensures.comes.heard c.put_report.ensures.unheard
    (omega (arith, c.put_report.ensures.misses_kept)) c.put_report.ensures.faults_grow
    (if_both _ _ c.refused.result c.refused.ensures.report c.refused.ensures.some) c.put_report.ensures.puts

pub returns-in-Err-clause-causes : goal.returns-in-Err-clause-causes
returns-in-Err-clause-causes g c = λ asked.
    refusal_statuses (task_seen c.args.work.now) asked
    (outside (g.F.Files.state c.args.files.now) (g.O.Out.state c.args.out.now))
    (outside (g.F.Files.state c.prepare.new.files) (g.O.Out.state c.args.out.now))
    (outside (g.F.Files.state c.put_report.new.files) (g.O.Out.state c.put_report.new.out))
    c.in-Err.ensures.kept refl c.in-Err.ensures.unwritten refl
    c.in-Err.ensures.faults_grow (le_itself (g.O.Out.state c.args.out.now).faults) c.in-Err.refusal
    c.refused.result c.put_report.result c.in-Err.ensures.exact c.put_report.ensures.misses_kept
    c.put_report.ensures.faults_grow c.in-Err.ensures.comes.came
    (if_both _ _ c.refused.result c.refused.ensures.report c.refused.ensures.some) c.put_report.ensures.puts

pub returns-in-Ok-clause-counts : goal.returns-in-Ok-clause-counts
returns-in-Ok-clause-counts g c =
    unbroken_counts c.judged.result
    (outside (g.F.Files.state c.args.files.now) (g.O.Out.state c.args.out.now))
    (outside (g.F.Files.state c.judged.new.files) (g.O.Out.state c.judged.new.out))
    (((g.F.Files.state c.judged.new.files).faults ≡ (g.F.Files.state c.prepare.new.files).faults)
    × ((g.O.Out.state c.judged.new.out).faults ≡ (g.O.Out.state c.args.out.now).faults))
    (λ same. (same.0 ∙ c.in-Ok.ensures.quiet, same.1)) c.judged.ensures.quiet

pub returns-in-Err-clause-counts : goal.returns-in-Err-clause-counts
returns-in-Err-clause-counts g c =
    put_counts
    (outside (g.F.Files.state c.args.files.now) (g.O.Out.state c.args.out.now))
    (outside (g.F.Files.state c.prepare.new.files) (g.O.Out.state c.args.out.now))
    (outside (g.F.Files.state c.put_report.new.files) (g.O.Out.state c.put_report.new.out))
    (record {
      held = c.in-Err.ensures.kept;
      sent = refl;
      written = c.in-Err.ensures.unwritten;
      taken = refl;
      faults = c.in-Err.ensures.faults_grow;
      out_faults = le_itself (g.O.Out.state c.args.out.now).faults;
    })
    refl c.refused.result c.put_report.result
    (if_ok _ _ (λ report is. refusal_tells c.in-Err.refusal _ _ report c.in-Err.ensures.quiet is) c.refused.result
    (if_both _ _ c.refused.result c.refused.ensures.report c.refused.ensures.some))
    c.put_report.ensures.puts c.put_report.ensures.quiet
