use Rattle.std.specs.Prelude.{ℕ, Vec}
use Rattle.std.specs.declared.alloc.Global.{Global}
use Rattle.std.proofs.Common.{Err, ap}
use Rattle.fv_base.specs.Outside.{FilesState}
use Rattle.rvf_core.proofs.FromFiles.{if_ok}
use Rattle.rvf_core.proofs.FromGraphs.{graph_read, graph_unread, read_one, unread_one}
use Rattle.rvf_core.specs.Steps.{all_read}
use Rattle.rvf_core.proofs.Quiet.{fault_tells}
use Rattle.rvf_core.proofs.encoding.encode.Goals as goal

pub returns-in-Ok-clause-says : goal.returns-in-Ok-clause-says
returns-in-Ok-clause-says g c =
    let before : FilesState = g.F.Files.state c.args.files.now in
    let now : FilesState = g.F.Files.state c.read.new.self in
    if_ok _ _
    (λ report p. graph_read c.args.aag.now c.args.cnf.now c.in-Ok.bytes.items c.as_slice.result.now before now report
    c.in-Ok.ensures.bytes c.in-Ok.ensures.heard c.as_slice.ensures.value p)
    c.encoded.result c.encoded.ensures

pub returns-in-Err-clause-says : goal.returns-in-Err-clause-says
returns-in-Err-clause-says g c =
    let before : FilesState = g.F.Files.state c.args.files.now in
    let now : FilesState = g.F.Files.state c.read.new.self in
    if_ok _ _
    (λ report. graph_unread c.in-Err.fault c.args.aag.now c.args.cnf.now before now report
    (λ is. c.in-Err.ensures.absent (ap (λ fault. Err fault) is))
    (λ is. c.in-Err.ensures.missed (ap (λ fault. Err fault) is))
    (λ is. c.in-Err.ensures.failed (ap (λ fault. Err fault) is)) c.in-Err.ensures.heard)
    c.unread.result c.unread.ensures

pub returns-in-Ok-clause-read_on : goal.returns-in-Ok-clause-read_on
returns-in-Ok-clause-read_on g c = read_one c.args.aag.now c.in-Ok.bytes.items _ _ c.in-Ok.ensures.heard

pub returns-in-Err-clause-read_on : goal.returns-in-Err-clause-read_on
returns-in-Err-clause-read_on g c = unread_one c.in-Err.fault c.args.aag.now _ _ c.in-Err.ensures.heard

pub returns-in-Ok-clause-told : goal.returns-in-Ok-clause-told
returns-in-Ok-clause-told g c =
    if_ok _ _ (λ report p. all_read c.in-Ok.ensures.quiet) c.encoded.result c.encoded.ensures

pub returns-in-Err-clause-told : goal.returns-in-Err-clause-told
returns-in-Err-clause-told g c =
    if_ok _ _
    (λ report. fault_tells (Vec ℕ Global) c.in-Err.fault c.args.aag.now _ _ _ report (λ same. same)
    c.in-Err.ensures.quiet)
    c.unread.result c.unread.ensures
