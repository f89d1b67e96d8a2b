use Rattle.std.proofs.Common.{subst}
use Rattle.fv_base.specs.Outside.{FilesState, Told}
use Rattle.rvf_case.specs.Cases.{request_seen, seen_between}
use Rattle.rvf_case.specs.Steps.{Prepares}
use Rattle.rvf_case.proofs.Exactness.{alike, answered}
use Rattle.rvf_case.proofs.preparing.prepare.Goals as goal

pub returns-clause-comes : goal.returns-clause-comes
returns-clause-comes g c =
    answered c.prepared.result (request_seen c.args.request)
    (seen_between (g.F.Files.state c.args.files.now) (g.F.Files.state c.prepared.new.files)) _ _
    c.prepared.ensures.prepares

pub returns-clause-exact : goal.returns-clause-exact
returns-clause-exact g c = λ names told other h.
    let first : FilesState = g.F.Files.state c.args.files.now in
    let now : FilesState = g.F.Files.state c.prepared.new.files in
    let p = c.prepared.ensures.prepares in
    alike (request_seen c.args.request) names p.events first.misses now.misses first.faults now.faults
    c.prepared.result other
    (subst (λ (held : Told). Prepares (request_seen c.args.request) (record {
      held = held;
      misses = first.misses;
      misses_now = now.misses;
      faults = first.faults;
      faults_now = now.faults;
    }) p.events c.prepared.result) told p.are) h
