use Rattle.std.proofs.Common.{◌≤◌, length, refl, subst, arith}
use Rattle.aiger_text.specs.Circles.{NoneAbove}
use Rattle.aiger_text.proofs.RowLaws.{row_read}
use Rattle.aiger_text.proofs.CircleLaws.{rises_more, rises_end}
use Rattle.aiger_text.proofs.circles.none_rises.Goals as goal

pub loop-node-preserved : goal.loop-node-preserved
loop-node-preserved c =
    rises_more c.args.graph.now c.args.ranks.now c.as_slice.result.now c.loop-node.node
    (row_read c.args.graph.now c.loop-node.node c.as_slice.result.now c.index-graph-node.result c.loop-node-test.true
    c.as_slice.ensures c.index-graph-node.is)
    (subst (NoneAbove c.args.ranks.now c.as_slice.result.now) c.rank_of.ensures (c.if-not-none_above.ensures.0 refl))
    c.loop-node.invariant

pub returns : goal.returns
returns c = λ t.
    let past : length c.args.graph.now ≤ c.loop-node.node = omega (arith, c.loop-node-test.false) in
    rises_end c.args.graph.now c.args.ranks.now c.loop-node.node past c.loop-node.invariant
