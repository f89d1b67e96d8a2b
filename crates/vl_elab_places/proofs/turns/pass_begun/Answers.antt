use Rattle.std.proofs.Common.{◌≡◌, ◌∙◌, sym}
use Rattle.std.specs.Prelude.{if◌then◌else◌}
use Rattle.std.proofs.lemmas.Result.{IfOk-weaker}
use Rattle.vl_elab_const.specs.Numbers.{genvar_number}
use Rattle.vl_elab_places.specs.Passing.{begun_passed, turn_passed, turns_passed}
use Rattle.vl_elab_places.proofs.turns.pass_begun.Goals as goal

pub returns-then-further-clause-behind : goal.returns-then-further-clause-behind
returns-then-further-clause-behind c =
    let ns = c.args.numbers.now in
    let head = c.args.head.now in
    let first = genvar_number ns head.start in
    let all = turns_passed 4096 ns head first c.args.start in
    let one = turn_passed ns head first c.args.start in
    IfOk-weaker c.pass_all_turns.result (λ k. k ≡ all)
    (λ k. k ≡ begun_passed c.args.further ns head c.args.start)
    (λ k h. h ∙ (λ i. if sym c.if-further.true i then all else one)) c.pass_all_turns.ensures.behind

pub returns-else-further-clause-behind : goal.returns-else-further-clause-behind
returns-else-further-clause-behind c =
    let ns = c.args.numbers.now in
    let head = c.args.head.now in
    let first = genvar_number ns head.start in
    let all = turns_passed 4096 ns head first c.args.start in
    let one = turn_passed ns head first c.args.start in
    IfOk-weaker c.pass_first_turn.result (λ k. k ≡ one)
    (λ k. k ≡ begun_passed c.args.further ns head c.args.start)
    (λ k h. h ∙ (λ i. if sym c.if-further.false i then all else one)) c.pass_first_turn.ensures.behind
