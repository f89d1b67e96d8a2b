use Rattle.std.proofs.Common.{◌≡◌, Some, refl}
use Rattle.fv_base.specs.Kept.{sure_names}
use Rattle.rvf_report.specs.Outcome.{outside}
use Rattle.rvf_core.specs.Steps.{all_read}
use Rattle.rvf_core.proofs.FromBench.{bench_case_ends, bench_refusal_ends}
use Rattle.rvf_core.proofs.FromFiles.{if_both, if_ok}
use Rattle.rvf_core.proofs.FromWords.{at_once}
use Rattle.rvf_core.proofs.Quiet.{put_counts, unbroken_counts}
use Rattle.rvf_core.proofs.benching.benched.Goals as goal

pub returns-in-Ok-clause-ends : goal.returns-in-Ok-clause-ends
returns-in-Ok-clause-ends g c = λ asked.
    bench_case_ends c.args.size asked _ _ (Some (sure_names c.args.own)) c.requires c.judged.ensures.unheard
    c.judgements_are_the_sources.ensures c.in-Ok.case c.judged.result c.in-Ok.ensures.comes.came
    c.in-Ok.ensures.ready c.judged.ensures.concluded

pub returns-clause-ends : goal.returns-clause-ends
returns-clause-ends g c = λ asked.
    bench_refusal_ends c.args.size asked _ _ (Some (sure_names c.args.own)) c.requires c.put_report.ensures.unheard _ _
    c.in-Err.refusal c.refused.result c.put_report.result c.in-Err.ensures.comes.came
    (if_both _ _ c.refused.result c.refused.ensures.report c.refused.ensures.some) c.put_report.ensures.puts

pub returns-in-Ok-clause-counts : goal.returns-in-Ok-clause-counts
returns-in-Ok-clause-counts g c =
    unbroken_counts c.judged.result
    (outside (g.F.Files.state c.args.files.now) (g.O.Out.state c.args.out.now))
    (outside (g.F.Files.state c.judged.new.files) (g.O.Out.state c.judged.new.out))
    (((g.F.Files.state c.judged.new.files).faults ≡ (g.F.Files.state c.args.files.now).faults)
    × ((g.O.Out.state c.judged.new.out).faults ≡ (g.O.Out.state c.args.out.now).faults))
    (λ same. same) c.judged.ensures.quiet

pub returns-clause-counts : goal.returns-clause-counts
returns-clause-counts g c =
    let before = (outside (g.F.Files.state c.args.files.now) (g.O.Out.state c.args.out.now)) in
    put_counts before before
    (outside (g.F.Files.state c.put_report.new.files) (g.O.Out.state c.put_report.new.out))
    (at_once before) refl c.refused.result c.put_report.result
    (if_ok _ _ (λ report is. all_read refl) c.refused.result c.refused.ensures.report) c.put_report.ensures.puts
    c.put_report.ensures.quiet
