use Rattle.std.proofs.Common.{arith}
use Rattle.sat_cubes.proofs.Steps.{counts_more}
use Rattle.sat_cubes.proofs.counting.counts_of.Goals as goal

pub loop-index-preserved : goal.loop-index-preserved
loop-index-preserved c =
    counts_more c.args.formula.now.vars c.loop-index.index c.args.formula.now.clauses c.clause_at.result.now
    c.loop-index.counts.items c.count.new.counts.items
    (omega (arith, c.loop-index-test.true, c.len-index-end.ensures.value)) c.clause_at.ensures.value
    c.loop-index.invariant.0 c.in_ok-count.ensures.vars c.loop-index.invariant.1 c.in_ok-count.ensures.each
