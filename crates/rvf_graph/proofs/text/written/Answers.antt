use Rattle.std.proofs.Common.{arith}
use Rattle.aiger_text.proofs.InputsCounted.{inputs_below}
use Rattle.rvf_graph.proofs.text.written.Goals as goal

pub overflow_sub-result-2 : goal.overflow_sub-result-2
overflow_sub-result-2 c =
    let less = inputs_below c.args.made.now.graph c.len-nodes.ensures.whole in
    omega (arith, less, c.inputs-inputs.ensures, c.len-nodes.ensures.value)
