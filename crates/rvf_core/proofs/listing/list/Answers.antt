use Rattle.std.proofs.Common.{Ok, Err}
use Rattle.fv_base.specs.Outside.{FilesState}
use Rattle.rvf_case.specs.Cases.{seen_between}
use Rattle.rvf_case.proofs.Files.{heard_so}
use Rattle.rvf_core.specs.Steps.{all_read}
use Rattle.rvf_core.proofs.FromFiles.{config_on, if_both, if_ok, listed_said, refused_said}
use Rattle.rvf_core.proofs.Quiet.{refusal_tells}
use Rattle.rvf_core.proofs.listing.list.Goals as goal

pub returns-in-Ok-clause-says : goal.returns-in-Ok-clause-says
returns-in-Ok-clause-says g c =
    let before : FilesState = g.F.Files.state c.args.files.now in
    let now : FilesState = g.F.Files.state c.read_config.new.files in
    if_ok _ _
    (λ report p. listed_said c.args.cfg.now before now c.in-Ok.config report c.in-Ok.ensures.configures p)
    c.listed.result (if_both _ _ c.listed.result c.listed.ensures.status c.listed.ensures.lines)

pub returns-in-Err-clause-says : goal.returns-in-Err-clause-says
returns-in-Err-clause-says g c =
    let before : FilesState = g.F.Files.state c.args.files.now in
    let now : FilesState = g.F.Files.state c.read_config.new.files in
    if_ok _ _
    (λ report p. refused_said c.args.cfg.now before now c.in-Err.refusal report c.in-Err.ensures.configures p)
    c.refused.result (if_both _ _ c.refused.result c.refused.ensures.report c.refused.ensures.some)

pub returns-in-Ok-clause-read_on : goal.returns-in-Ok-clause-read_on
returns-in-Ok-clause-read_on g c =
    let before : FilesState = g.F.Files.state c.args.files.now in
    let now : FilesState = g.F.Files.state c.read_config.new.files in
    heard_so _ _ c.in-Ok.ensures.configures
    (λ events x. config_on (Ok c.in-Ok.config) c.args.cfg.now (seen_between before now) events x)

pub returns-in-Err-clause-read_on : goal.returns-in-Err-clause-read_on
returns-in-Err-clause-read_on g c =
    let before : FilesState = g.F.Files.state c.args.files.now in
    let now : FilesState = g.F.Files.state c.read_config.new.files in
    heard_so _ _ c.in-Err.ensures.configures
    (λ events x. config_on (Err c.in-Err.refusal) c.args.cfg.now (seen_between before now) events x)

pub returns-in-Ok-clause-told : goal.returns-in-Ok-clause-told
returns-in-Ok-clause-told g c =
    if_ok _ _ (λ report is. all_read c.in-Ok.ensures.quiet) c.listed.result c.listed.ensures.status

pub returns-in-Err-clause-told : goal.returns-in-Err-clause-told
returns-in-Err-clause-told g c =
    if_ok _ _ (λ report is. refusal_tells c.in-Err.refusal _ _ report c.in-Err.ensures.quiet is)
    c.refused.result (if_both _ _ c.refused.result c.refused.ensures.report c.refused.ensures.some)
