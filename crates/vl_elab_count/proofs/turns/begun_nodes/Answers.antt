use Rattle.std.proofs.Common.{◌≡◌, ◌∙◌, sym}
use Rattle.std.specs.Prelude.{if◌then◌else◌}
use Rattle.std.proofs.lemmas.Result.{IfOk-weaker}
use Rattle.vl_mean.specs.ConstantFaults.{capped}
use Rattle.vl_elab_const.specs.Numbers.{genvar_number}
use Rattle.vl_elab_count.specs.Counts.{turn_nodes, one_turn_nodes, begun_nodes}
use Rattle.vl_elab_count.proofs.turns.begun_nodes.Goals as goal

pub returns-then-further-clause-count : goal.returns-then-further-clause-count
returns-then-further-clause-count c =
    let ns = c.args.numbers.now in
    let head = c.args.head.now in
    let first = genvar_number ns head.start in
    let all = turn_nodes 4096 ns head first in
    let one = one_turn_nodes ns head first in
    IfOk-weaker c.all_turns.result (λ n. n ≡ capped all) (λ n. n ≡ capped (begun_nodes c.args.further ns head))
    (λ n h. h ∙ (λ i. capped (if sym c.if-further.true i then all else one))) c.all_turns.ensures.count

pub returns-else-further-clause-count : goal.returns-else-further-clause-count
returns-else-further-clause-count c =
    let ns = c.args.numbers.now in
    let head = c.args.head.now in
    let first = genvar_number ns head.start in
    let all = turn_nodes 4096 ns head first in
    let one = one_turn_nodes ns head first in
    IfOk-weaker c.first_turn_nodes.result (λ n. n ≡ capped one)
    (λ n. n ≡ capped (begun_nodes c.args.further ns head))
    (λ n h. h ∙ (λ i. capped (if sym c.if-further.false i then all else one))) c.first_turn_nodes.ensures.count
