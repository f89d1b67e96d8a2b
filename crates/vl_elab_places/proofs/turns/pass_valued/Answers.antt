use Rattle.std.proofs.Common.{◌≡◌, ◌∙◌, sym}
use Rattle.std.specs.Prelude.{if◌then◌else◌}
use Rattle.std.proofs.lemmas.Result.{IfOk-weaker}
use Rattle.vl_elab_places.specs.Passing.{begun_passed, expr_passed, loop_passed}
use Rattle.vl_elab_places.proofs.turns.pass_valued.Goals as goal

pub returns-then-begins-clause-behind : goal.returns-then-begins-clause-behind
returns-then-begins-clause-behind c =
    let ns = c.args.numbers.now in
    let head = c.args.head.now in
    let values = c.args.values in
    let begun = begun_passed values.further ns head c.args.start in
    let alone = expr_passed head.condition c.args.start in
    IfOk-weaker c.pass_begun.result (λ k. k ≡ begun)
    (λ k. k ≡ loop_passed values ns head c.args.start)
    (λ k h. h ∙ (λ i. if sym c.if-begins.true i then begun else alone)) c.pass_begun.ensures.behind

pub returns-clause-behind : goal.returns-clause-behind
returns-clause-behind c =
    let ns = c.args.numbers.now in
    let head = c.args.head.now in
    let values = c.args.values in
    let begun = begun_passed values.further ns head c.args.start in
    let alone = expr_passed head.condition c.args.start in
    c.pass_expr.ensures ∙ (λ i. if sym c.if-begins.false i then begun else alone)
