use Rattle.rvf_case.proofs.Files.{configures, heard_so, misconfigures}
use Rattle.rvf_case.proofs.Quiet.{in_any_case}
use Rattle.rvf_case.proofs.reading.read_config.Goals as goal

pub returns-in-Ok-clause-configures : goal.returns-in-Ok-clause-configures
returns-in-Ok-clause-configures g c =
    heard_so _ _ c.in_ok-text.ensures.reads
    (λ events read. configures c.in-Ok.config c.args.cfg.now c.in_ok-text.text c.bytes.result.now _ events read
    c.bytes.ensures c.in-Ok.ensures.answers)

pub returns-clause-configures : goal.returns-clause-configures
returns-clause-configures g c =
    rw c.misconfigured.ensures (heard_so _ _ c.in_ok-text.ensures.reads
    (λ events read. misconfigures c.in-Err.fault c.args.cfg.now c.in_ok-text.text c.bytes.result.now _ events read
    c.bytes.ensures c.in-Err.ensures.answers))

pub returns-clause-quiet : goal.returns-clause-quiet
returns-clause-quiet g c = in_any_case c.misconfigured.result _ c.in_ok-text.ensures.quiet
