use Rattle.std.proofs.Common.{arith}
use Rattle.bb_aig.specs.declared.node.AigNode.TheVariants as n
use Rattle.aiger_text.proofs.WriteLaws.{inputs_step, inputs_end}
use Rattle.aiger_text.proofs.write.put_inputs.Goals as goal

pub loop-index-preserved : goal.loop-index-preserved
loop-index-preserved c =
    inputs_step c.args.nodes.now c.loop-index.index n.False c.loop-index.out.items c.put_input.new.out.items _
    (omega arith) c.loop-index.invariant c.in_ok-put_input.ensures

pub returns : goal.returns
returns c =
    inputs_end c.loop-index.out.items _ c.loop-index.index c.args.nodes.now (omega arith) c.loop-index.invariant
