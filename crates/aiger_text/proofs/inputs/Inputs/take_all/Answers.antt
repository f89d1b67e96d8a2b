use Rattle.std.proofs.Common.{ap, sym, ◌∙◌}
use Rattle.std.proofs.lemmas.Result.{err_from_is_err_and}
use Rattle.aiger_text.specs.Lines.{lines}
use Rattle.aiger_text.specs.Said.{read_inputs}
use Rattle.aiger_text.proofs.BodyLaws.{inputs_next, inputs_refused}
use Rattle.aiger_text.proofs.inputs.Inputs.take_all.Goals as goal

pub returns-in_err-take-clause-err : goal.returns-in_err-take-clause-err
returns-in_err-take-clause-err c =
    let p = err_from_is_err_and c.from_residual.result c.from_residual.ensures.1 in
    rw (p.1, p.2) (inputs_refused c.args.sizes c.loop-rest.line c.loop-rest.self.literals.items c.loop-rest.rest.now
    c.next_line.result.0.now c.next_line.result.1.now
    (read_inputs c.args.sizes c.args.first c.args.self.now.literals.items (lines c.args.text.now))
    c.next_line.ensures.lines c.loop-rest.invariant.1 c.in_err-take.field-0.0 (sym c.if-not-lacks.ensures)
    c.in_err-take.ensures)

pub loop-rest-preserved : goal.loop-rest-preserved
loop-rest-preserved c = (
  c.in_ok-take.ensures.0,
  ap (λ n. read_inputs c.args.sizes n c.take.new.self.literals.items (lines c.next_line.result.1.now))
      c.next_place-line.ensures
      ∙ inputs_next c.args.sizes c.loop-rest.line c.loop-rest.self.literals.items c.loop-rest.rest.now
      c.next_line.result.0.now c.next_line.result.1.now _ c.next_line.ensures.lines c.loop-rest.invariant.1
      c.take.new.self.literals.items (sym c.if-not-lacks.ensures) c.in_ok-take.ensures.1,
)
