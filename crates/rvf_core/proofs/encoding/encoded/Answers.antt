use Rattle.std.proofs.Common.{ap, sym, ◌∙◌}
use Rattle.rvf_report.specs.declared.status.Status.TheVariants as s
use Rattle.rvf_core.specs.Certificate.{one_line}
use Rattle.rvf_core.proofs.FromFiles.{if_both, if_ok}
use Rattle.rvf_core.proofs.FromGraphs.{cause_of, made_encodes, refused_encodes}
use Rattle.rvf_core.proofs.encoding.encoded.Goals as goal

pub returns-in-Ok : goal.returns-in-Ok
returns-in-Ok c =
    if_ok _ _
    (λ report p. made_encodes c.args.bytes.now c.args.cnf.now c.in-Ok.made report c.in-Ok.ensures.answers p.0 p.1)
    c.with_file.result (if_both _ _ c.with_file.result c.with_file.ensures.status c.with_file.ensures.deliveries)

pub returns-in_ok-line-in-Err : goal.returns-in_ok-line-in-Err
returns-in_ok-line-in-Err c =
    if_ok _ _
    (λ report is. refused_encodes c.args.bytes.now c.args.cnf.now c.in-Err.fault report
    (cause_of c.in-Err.fault (sym c.wants_memory.ensures ∙ c.if-wants_memory.false) c.in-Err.ensures.answers)
    (is ∙ ap (λ line. one_line s.Refused line) c.in_ok-line-in-Err.ensures)) c.of_line.result c.of_line.ensures
