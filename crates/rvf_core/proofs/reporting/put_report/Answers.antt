use Rattle.rvf_core.proofs.Quiet.{put_quiet}
use Rattle.rvf_core.proofs.reporting.put_report.Goals as goal

pub returns-in-Ok-clause-quiet : goal.returns-in-Ok-clause-quiet
returns-in-Ok-clause-quiet g c =
    put_quiet c.deliver.result c.in-Ok.report.status c.ended.result _ c.ended.ensures c.deliver.ensures.quiet
