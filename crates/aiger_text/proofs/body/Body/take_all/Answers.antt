use Rattle.std.proofs.Common.{ap, sym, ◌∙◌}
use Rattle.std.proofs.lemmas.Result.{err_from_is_err_and}
use Rattle.aiger_text.specs.Lines.{lines}
use Rattle.aiger_text.specs.Said.{read_gates}
use Rattle.aiger_text.specs.Bodies.{said_of}
use Rattle.aiger_text.proofs.BodyLaws.{gates_full, gates_next, gates_refused}
use Rattle.aiger_text.proofs.body.Body.take_all.Goals as goal

pub returns-then-is_full : goal.returns-then-is_full
returns-then-is_full c = (
  c.loop-rest.invariant.0,
  gates_full c.args.sizes c.loop-rest.line (said_of c.loop-rest.self) (lines c.loop-rest.rest.now) _
      (sym c.if-is_full.ensures) c.loop-rest.invariant.1,
)

pub returns-in_err-take : goal.returns-in_err-take
returns-in_err-take c =
    let p = err_from_is_err_and c.from_residual.result c.from_residual.ensures.1 in
    rw (p.1, p.2) (gates_refused c.args.sizes c.loop-rest.line (said_of c.loop-rest.self) c.loop-rest.rest.now
    c.next_line.result.0.now c.next_line.result.1.now
    (read_gates c.args.sizes c.args.first (said_of c.args.self.now) (lines c.args.text.now))
    c.next_line.ensures.lines (sym c.if-is_full.ensures) c.loop-rest.invariant.1 c.in_err-take.field-0.0
    c.in_err-take.ensures)

pub loop-rest-preserved : goal.loop-rest-preserved
loop-rest-preserved c = (
  c.in_ok-take.ensures.0,
  ap (λ n. read_gates c.args.sizes n (said_of c.take.new.self) (lines c.next_line.result.1.now))
      c.next_place-line.ensures
      ∙ gates_next c.args.sizes c.loop-rest.line (said_of c.loop-rest.self) c.loop-rest.rest.now
      c.next_line.result.0.now c.next_line.result.1.now _ c.next_line.ensures.lines (sym c.if-is_full.ensures)
      c.loop-rest.invariant.1 (said_of c.take.new.self) c.in_ok-take.ensures.1,
)

pub returns-then-is_full-2 : goal.returns-then-is_full-2
returns-then-is_full-2 c = (
  c.loop-rest.invariant.0,
  gates_full c.args.sizes c.loop-rest.line (said_of c.loop-rest.self) (lines c.loop-rest.rest.now) _
      (sym c.if-is_full-2.ensures) c.loop-rest.invariant.1,
)
