use Rattle.std.proofs.Common.{◌∙◌, ap}
use Rattle.rvf_report.specs.declared.status.Status.TheVariants.{Usage}
use Rattle.rvf_core.specs.Certificate.{one_line}
use Rattle.rvf_core.proofs.FromFiles.{if_ok}
use Rattle.rvf_core.proofs.top.misused.Goals as goal

pub returns : goal.returns
returns c =
    if_ok _ _ (λ report is. is ∙ ap (λ line. one_line Usage line) c.in_ok-from_bytes.ensures) c.of_line.result
    c.of_line.ensures
