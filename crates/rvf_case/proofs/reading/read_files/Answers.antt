use Rattle.std.proofs.Common.{◌≡◌, ◌∙◌, Err, arith, rules}
use Rattle.fv_base.specs.Outside.{FilesState}
use Rattle.rvf_case.specs.Cases.{seen_between}
use Rattle.rvf_case.specs.declared.refusal.Refusal.TheVariants as refusal
use Rattle.rvf_case.proofs.Files.{files_read, files_unread, files_wanting, heard_next, next_read, no_less}
use Rattle.rvf_case.proofs.Files.{same_in_turn}
use Rattle.rvf_case.proofs.Quiet.{follows}
use Rattle.rvf_case.proofs.reading.read_files.Goals as goal

pub returns-in_err-text-clause-reads : goal.returns-in_err-text-clause-reads
returns-in_err-text-clause-reads g c =
    let first : FilesState = g.F.Files.state c.args.files.now in
    let before : FilesState = g.F.Files.state c.loop-name.files in
    let now : FilesState = g.F.Files.state c.read_file.new.files in
    let left : c.from_residual.result ≡ Err c.in_err-text.field-0.0 = search rules in
    rw left (files_unread c.in_err-text.field-0.0 c.args.names.now c.loop-name.texts c.loop-name.name-index
    c.bytes.result.now c.name-item.result (seen_between first now) before.held before.misses before.faults first.heard
    before.heard now.heard c.loop-name-test.true (c.bytes.ensures ∙ c.name-item.is)
    c.loop-name.invariant.read c.loop-name.invariant.kept c.loop-name.invariant.misses c.loop-name.invariant.faults
    c.loop-name.invariant.heard c.in_err-text.ensures.reads)

pub returns-in_err-text-clause-quiet : goal.returns-in_err-text-clause-quiet
returns-in_err-text-clause-quiet g c =
    let left : c.from_residual.result ≡ Err c.in_err-text.field-0.0 = search rules in
    rw left (follows c.in_err-text.field-0.0 _ _ (λ same. same ∙ c.loop-name.invariant.quiet)
    c.in_err-text.ensures.quiet)

pub returns-in_err-push-clause-reads : goal.returns-in_err-push-clause-reads
returns-in_err-push-clause-reads g c =
    let first : FilesState = g.F.Files.state c.args.files.now in
    let before : FilesState = g.F.Files.state c.loop-name.files in
    let now : FilesState = g.F.Files.state c.read_file.new.files in
    let left : c.from_residual-in_err-push.result ≡ Err refusal.Memory = search rules in
    rw left (files_wanting c.args.names.now c.loop-name.texts c.loop-name.name-index c.bytes.result.now
    c.name-item.result c.in_ok-text.text (seen_between first now) first.heard before.heard now.heard
    c.in_ok-text.ensures.reads.events c.loop-name-test.true (c.bytes.ensures ∙ c.name-item.is)
    c.loop-name.invariant.read c.in_ok-text.ensures.reads.are.1 c.loop-name.invariant.heard
    c.in_ok-text.ensures.reads.behind)

pub loop-name-preserved : goal.loop-name-preserved
loop-name-preserved g c =
    let first : FilesState = g.F.Files.state c.args.files.now in
    let before : FilesState = g.F.Files.state c.loop-name.files in
    let now : FilesState = g.F.Files.state c.read_file.new.files in
    record {
      kept = same_in_turn first.held before.held now.held c.loop-name.invariant.kept c.in_ok-text.ensures.kept;
      written = c.in_ok-text.ensures.unwritten ∙ c.loop-name.invariant.written;
      misses = no_less _ _ _ c.loop-name.invariant.misses c.in_ok-text.ensures.misses_grow;
      faults = no_less _ _ _ c.loop-name.invariant.faults c.in_ok-text.ensures.faults_grow;
      quiet = c.in_ok-text.ensures.quiet ∙ c.loop-name.invariant.quiet;
      read = next_read first.held before.held c.args.names.now c.loop-name.texts c.push.new.self
          c.loop-name.name-index c.bytes.result.now c.name-item.result c.in_ok-text.text c.loop-name-test.true
          (c.bytes.ensures ∙ c.name-item.is) c.loop-name.invariant.read c.loop-name.invariant.kept
          c.in_ok-text.ensures.reads.are.0 c.in_ok-push.ensures.ok;
      heard = heard_next first.held c.args.names.now c.loop-name.texts c.push.new.self c.loop-name.name-index
          c.bytes.result.now c.name-item.result c.in_ok-text.text first.heard before.heard now.heard
          c.in_ok-text.ensures.reads.events c.loop-name-test.true (c.bytes.ensures ∙ c.name-item.is)
          c.loop-name.invariant.read c.in_ok-push.ensures.ok c.in_ok-text.ensures.reads.are.1
          c.loop-name.invariant.heard c.in_ok-text.ensures.reads.behind;
    }

pub returns-clause-reads : goal.returns-clause-reads
returns-clause-reads g c =
    let first : FilesState = g.F.Files.state c.args.files.now in
    let now : FilesState = g.F.Files.state c.loop-name.files in
    files_read c.args.names.now c.loop-name.texts c.loop-name.name-index (seen_between first now) first.heard now.heard
    (omega (arith, c.loop-name-test.false)) c.loop-name.invariant.read c.loop-name.invariant.heard
