use Rattle.std.proofs.Common.{◌≡◌, ◌∙◌, ap}
use Rattle.std.proofs.lemmas.Result.{IfOk-weaker}
use Rattle.vl_mean.specs.ConstantFaults.{capped}
use Rattle.vl_elab_const.specs.Numbers.{genvar_number}
use Rattle.vl_elab_count.specs.Counts.{one_turn_nodes}
use Rattle.vl_elab_count.proofs.turns.first_turn_nodes.Goals as goal

pub returns-clause-count : goal.returns-clause-count
returns-clause-count c =
    let ns = c.args.numbers.now in
    let head = c.args.head.now in
    IfOk-weaker c.one_turn.result (λ n. n ≡ capped (one_turn_nodes ns head c.in_ok-start.start))
    (λ n. n ≡ capped (one_turn_nodes ns head (genvar_number ns head.start)))
    (λ n h. h ∙ ap (λ k. capped (one_turn_nodes ns head k)) c.in_ok-start.ensures) c.one_turn.ensures.count
