use Rattle.std.proofs.Common.{ap, ◌∙◌}
use Rattle.std.proofs.lemmas.Result.{err_from_is_err_and}
use Rattle.fv_lines.specs.Words.{lines}
use Rattle.ck_cfg.specs.Line.{counted_from, counted_lines}
use Rattle.ck_cfg.specs.Reading.{with_lines}
use Rattle.ck_cfg.proofs.Reading.{line_more, line_refused}
use Rattle.ck_cfg.proofs.reader.Reader.take_lines.Goals as goal

pub returns-in_err-take_line : goal.returns-in_err-take_line
returns-in_err-take_line c =
    let p = err_from_is_err_and c.from_residual.result c.from_residual.ensures.1 in
    rw (p.1, p.2) (line_refused c.loop-rest.self c.loop-rest.line c.loop-rest.rest.now c.next_line.result.1.now
    c.next_line.result.0.now c.trimmed.result.now
    (with_lines c.args.self.now
    (counted_lines c.args.bytes.now)) c.next_line.ensures.lines c.trimmed.ensures c.loop-rest.invariant _
    c.in_err-take_line.ensures)

pub loop-rest-preserved : goal.loop-rest-preserved
loop-rest-preserved c =
    ap (λ n. with_lines c.take_line.new.self
    (counted_from n (lines c.next_line.result.1.now))) c.next_place-line.ensures
    ∙ line_more c.loop-rest.self c.loop-rest.line c.loop-rest.rest.now c.next_line.result.1.now
    c.next_line.result.0.now c.trimmed.result.now
    (with_lines c.args.self.now
    (counted_lines c.args.bytes.now)) c.next_line.ensures.lines c.trimmed.ensures c.loop-rest.invariant
    c.take_line.new.self c.in_ok-take_line.ensures
