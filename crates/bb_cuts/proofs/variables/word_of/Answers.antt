use Rattle.std.proofs.Common.{arith}
use Rattle.bb_cuts.proofs.Words.{same_next}
use Rattle.bb_cuts.proofs.variables.word_of.Goals as goal

pub loop-lit-preserved : goal.loop-lit-preserved
loop-lit-preserved c =
    same_next c.args.nodes.now c.loop-lit.made c.push.new.self c.args.word.now c.loop-lit.lit-index _ c.in-Some.own
    (omega arith) c.loop-lit.invariant c.in-Some.ensures c.in_ok-push.ensures.ok
