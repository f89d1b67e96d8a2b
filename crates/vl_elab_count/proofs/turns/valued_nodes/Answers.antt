use Rattle.std.proofs.Common.{◌≡◌, ◌∙◌}
use Rattle.std.proofs.lemmas.Result.{IfOk-weaker}
use Rattle.vl_mean.specs.ConstantFaults.{capped}
use Rattle.vl_mean.specs.Walk.{Place}
use Rattle.vl_elab_spec.specs.Counts as counts
use Rattle.vl_elab_const.specs.Numbers.{HaveNumbers}
use Rattle.vl_elab_check_item.specs.TurnParts.{GoesBy}
use Rattle.vl_elab_count.specs.Counts.{begun_nodes}
use Rattle.vl_elab_count.proofs.Numbers.{no_turn, some_turns}
use Rattle.vl_elab_count.proofs.turns.valued_nodes.Goals as goal

pub returns-then-begins-clause-count : goal.returns-then-begins-clause-count
returns-then-begins-clause-count c =
    let ns = c.args.numbers.now in
    let head = c.args.head.now in
    let values = c.args.values in
    IfOk-weaker c.begun_nodes.result (λ n. n ≡ capped (begun_nodes values.further ns head))
    (λ n. (at : Place) → HaveNumbers ns at.scopes → GoesBy values head at → n ≡ capped (counts.loop_nodes head at))
    (λ n h at agree by. h ∙ some_turns ns at agree head values by c.if-begins.true) c.begun_nodes.ensures.count

pub returns-clause-count : goal.returns-clause-count
returns-clause-count c at agree by =
    c.expr_nodes.ensures ∙ no_turn c.args.numbers.now at agree c.args.head.now c.args.values by c.if-begins.false
