use Rattle.bb_words.proofs.Copies.{one_made, zero_made}
use Rattle.bb_words.proofs.constants.constant.Goals as goal

pub returns-then-value : goal.returns-then-value
returns-then-value c =
    one_made c.args.gates.now c.graph.result.now c.args.value c.graph.ensures c.len.ensures.whole c.if-value.true

pub returns-else-value : goal.returns-else-value
returns-else-value c =
    zero_made c.args.gates.now c.graph.result.now c.args.value c.graph.ensures c.len.ensures.whole c.if-value.false
