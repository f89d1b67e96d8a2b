use Rattle.std.specs.Prelude.{ℕ, Vec}
use Rattle.std.specs.declared.alloc.Global.{Global}
use Rattle.std.proofs.Common.{Err, ◌∙◌, ap}
use Rattle.fv_base.specs.Outside.{FilesState}
use Rattle.rvf_core.proofs.FromFiles.{both_on, both_read, first_on, first_unread, if_both, if_ok, second_on}
use Rattle.rvf_core.proofs.FromFiles.{second_unread}
use Rattle.rvf_core.specs.Steps.{all_read}
use Rattle.rvf_core.proofs.Quiet.{fault_tells}
use Rattle.rvf_core.proofs.certifying.refute.Goals as goal

pub returns-in-Ok-read-clause-says : goal.returns-in-Ok-read-clause-says
returns-in-Ok-read-clause-says g c =
    let before : FilesState = g.F.Files.state c.args.files.now in
    let middle : FilesState = g.F.Files.state c.read.new.self in
    let now : FilesState = g.F.Files.state c.read-in-Ok.new.self in
    if_ok _ _
    (λ report p. both_read c.args.cnf.now c.args.proof.now c.in-Ok.clauses.items c.in-Ok-read.steps.items
    c.as_slice.result.now c.as_slice-in-Ok-read.result.now before middle now report c.in-Ok.ensures.bytes
    c.in-Ok.ensures.kept c.in-Ok-read.ensures.bytes c.in-Ok.ensures.heard c.in-Ok-read.ensures.heard
    c.as_slice.ensures.value c.as_slice-in-Ok-read.ensures.value p)
    c.certify.result (if_both _ _ c.certify.result c.certify.ensures.found c.certify.ensures.proved)

pub returns-in-Ok-clause-says : goal.returns-in-Ok-clause-says
returns-in-Ok-clause-says g c =
    let before : FilesState = g.F.Files.state c.args.files.now in
    let middle : FilesState = g.F.Files.state c.read.new.self in
    let now : FilesState = g.F.Files.state c.read-in-Ok.new.self in
    if_ok _ _
    (λ report. second_unread c.in-Err-read.fault c.args.cnf.now c.args.proof.now c.in-Ok.clauses.items before middle now
    report c.in-Ok.ensures.bytes c.in-Ok.ensures.kept c.in-Ok.ensures.misses_grow c.in-Ok.ensures.faults_grow
    c.in-Ok.ensures.heard
    (λ is. c.in-Err-read.ensures.absent (ap (λ fault. Err fault) is))
    (λ is. c.in-Err-read.ensures.missed (ap (λ fault. Err fault) is))
    (λ is. c.in-Err-read.ensures.failed (ap (λ fault. Err fault) is)) c.in-Err-read.ensures.heard)
    c.unread.result c.unread.ensures

pub returns-clause-says : goal.returns-clause-says
returns-clause-says g c =
    let before : FilesState = g.F.Files.state c.args.files.now in
    let now : FilesState = g.F.Files.state c.read.new.self in
    if_ok _ _
    (λ report. first_unread c.in-Err.fault c.args.cnf.now c.args.proof.now before now report
    (λ is. c.in-Err.ensures.absent (ap (λ fault. Err fault) is))
    (λ is. c.in-Err.ensures.missed (ap (λ fault. Err fault) is))
    (λ is. c.in-Err.ensures.failed (ap (λ fault. Err fault) is)) c.in-Err.ensures.heard)
    c.unread-in-Err.result c.unread-in-Err.ensures

pub returns-in-Ok-read-clause-read_on : goal.returns-in-Ok-read-clause-read_on
returns-in-Ok-read-clause-read_on g c =
    both_on c.args.cnf.now c.args.proof.now c.in-Ok.clauses.items c.in-Ok-read.steps.items _ _ _
    c.in-Ok.ensures.heard c.in-Ok-read.ensures.heard

pub returns-in-Ok-clause-read_on : goal.returns-in-Ok-clause-read_on
returns-in-Ok-clause-read_on g c =
    second_on c.in-Err-read.fault c.args.cnf.now c.args.proof.now c.in-Ok.clauses.items _ _ _
    c.in-Ok.ensures.heard c.in-Err-read.ensures.heard

pub returns-clause-read_on : goal.returns-clause-read_on
returns-clause-read_on g c =
    first_on c.in-Err.fault c.args.cnf.now c.args.proof.now _ _ c.in-Err.ensures.heard

pub returns-in-Ok-read-clause-told : goal.returns-in-Ok-read-clause-told
returns-in-Ok-read-clause-told g c =
    if_ok _ _ (λ report p. all_read (c.in-Ok-read.ensures.quiet ∙ c.in-Ok.ensures.quiet))
    c.certify.result c.certify.ensures.found

pub returns-in-Ok-clause-told : goal.returns-in-Ok-clause-told
returns-in-Ok-clause-told g c =
    if_ok _ _
    (λ report. fault_tells (Vec ℕ Global) c.in-Err-read.fault c.args.proof.now _ _ _ report
    (λ same. same ∙ c.in-Ok.ensures.quiet) c.in-Err-read.ensures.quiet)
    c.unread.result c.unread.ensures

pub returns-clause-told : goal.returns-clause-told
returns-clause-told g c =
    if_ok _ _
    (λ report. fault_tells (Vec ℕ Global) c.in-Err.fault c.args.cnf.now _ _ _ report (λ same. same)
    c.in-Err.ensures.quiet)
    c.unread-in-Err.result c.unread-in-Err.ensures
