use Rattle.std.proofs.Common.{◌≡◌, ◌∙◌, ap}
use Rattle.std.proofs.lemmas.Result.{IfOk-weaker}
use Rattle.vl_elab_const.specs.Numbers.{genvar_number}
use Rattle.vl_elab_places.specs.Passing.{turn_passed}
use Rattle.vl_elab_places.proofs.turns.pass_first_turn.Goals as goal

pub returns-clause-behind : goal.returns-clause-behind
returns-clause-behind c =
    let ns = c.args.numbers.now in
    let head = c.args.head.now in
    IfOk-weaker c.pass_turn.result (λ k. k ≡ turn_passed ns head c.in_ok-first.first c.args.start)
    (λ k. k ≡ turn_passed ns head (genvar_number ns head.start) c.args.start)
    (λ k h. h ∙ ap (λ v. turn_passed ns head v c.args.start) c.in_ok-first.ensures) c.pass_turn.ensures.behind
