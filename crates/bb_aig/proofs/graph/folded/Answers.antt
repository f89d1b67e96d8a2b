use Rattle.bb_aig.proofs.Growth.{both_left_0, both_left_1, both_right_0, both_right_1, both_other}
use Rattle.bb_aig.proofs.graph.folded.Goals as goal

pub returns-then-a-eq0-clause-both : goal.returns-then-a-eq0-clause-both
returns-then-a-eq0-clause-both c = both_left_0 c.args.aig.now c.args.a c.args.b c.len.ensures.whole c.if-a-eq0.true

pub returns-then-a-eq1-clause-both : goal.returns-then-a-eq1-clause-both
returns-then-a-eq1-clause-both c = both_left_1 c.args.aig.now c.args.a c.args.b c.len.ensures.whole c.if-a-eq1.true

pub returns-then-b-eq0-clause-both : goal.returns-then-b-eq0-clause-both
returns-then-b-eq0-clause-both c = both_right_0 c.args.aig.now c.args.a c.args.b c.len.ensures.whole c.if-b-eq0.true

pub returns-then-b-eq1-clause-both : goal.returns-then-b-eq1-clause-both
returns-then-b-eq1-clause-both c = both_right_1 c.args.aig.now c.args.a c.args.b c.len.ensures.whole c.if-b-eq1.true

pub returns-then-a-b-2-clause-both : goal.returns-then-a-b-2-clause-both
returns-then-a-b-2-clause-both c =
    both_other c.args.aig.now c.args.a c.args.b c.len.ensures.whole c.if-a-b-2.true c.if-a-b.false
