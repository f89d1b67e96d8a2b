use Rattle.std.proofs.Common.{pos, get_or, ◌∙◌, arith}
use Rattle.sat_cubes.proofs.Steps.{negs_more, neg_passed, read_at}
use Rattle.sat_cubes.proofs.cube.negs.Goals as goal

pub loop-lit-preserved : goal.loop-lit-preserved
loop-lit-preserved c =
    let lits = c.args.lits.now in
    let i = c.loop-lit.lit-index in
    c.in_ok-push.ensures.items
    ∙ negs_more lits i (get_or lits i (pos 0)) _ c.loop-lit.complements.items c.loop-lit-test.true
    (read_at lits i c.loop-lit-test.true) (neg_passed lits i c.requires c.loop-lit-test.true) c.loop-lit.invariant
