use Rattle.std.proofs.Common.{◌≡◌, Err, rules}
use Rattle.std.proofs.lemmas.Result.{err_from_is_err_and}
use Rattle.rvf_case.specs.Texts.{asked_for}
use Rattle.rvf_case.proofs.Turns.{turn_each, turn_kinds, turn_stops}
use Rattle.rvf_case.proofs.loading.load_kinds.Goals as goal

pub returns-in_err-text : goal.returns-in_err-text
returns-in_err-text c =
    let left : c.from_residual.result ≡ Err c.in_err-text.field-0.0 = search rules in
    rw left (turn_stops (asked_for c.args.wanted.config.now c.args.wanted.files.now c.args.wanted.questions.now) c.args.kinds.now c.loop-kind.kind-index _
    c.loop-kind.texts c.in_err-text.field-0.0 c.loop-kind-test.true c.loop-kind.invariant.kinds_are
    c.loop-kind.invariant.each c.in_err-text.ensures)

pub returns-in_err-push : goal.returns-in_err-push
returns-in_err-push c =
    let p = err_from_is_err_and c.from_residual-in_err-push.result c.from_residual-in_err-push.ensures.1 in
    rw (p.1, p.2) tt

pub loop-kind-preserved : goal.loop-kind-preserved
loop-kind-preserved c = record {
  kinds_are = turn_kinds (asked_for c.args.wanted.config.now c.args.wanted.files.now c.args.wanted.questions.now) c.args.kinds.now c.loop-kind.kind-index _
      c.loop-kind.texts c.in_ok-text.text c.push.new.self c.loop-kind-test.true c.loop-kind.invariant.kinds_are
      c.in_ok-push.ensures.ok c.in_ok-text.ensures;
  each = turn_each (asked_for c.args.wanted.config.now c.args.wanted.files.now c.args.wanted.questions.now) c.args.kinds.now c.loop-kind.kind-index _
      c.loop-kind.texts c.in_ok-text.text c.push.new.self c.loop-kind.invariant.each c.in_ok-push.ensures.ok
      c.in_ok-text.ensures;
}
