use Rattle.std.specs.Prelude.{◌&&◌, not, ◌<◌, ◌≤◌, length}
use Rattle.std.proofs.Common.{arith}
use Rattle.bb_aig.specs.Bits.{differ, same_bits}
use Rattle.bb_words.proofs.Folding.{same_steps, folding_next, folded_all}
use Rattle.bb_words.proofs.pairs.is_same.Goals as goal

pub loop-index-preserved : goal.loop-index-preserved
loop-index-preserved c =
    let within : c.loop-index.index < length c.args.a.now = omega arith in
    folding_next same_bits (λ r x y. r && not
    (differ x y)) same_steps c.args.gates.now c.loop-index.gates c.same_step.new.gates
    c.args.a.now c.args.b.now c.args.told c.loop-index.index _ _ c.loop-index.same c.in_ok-same.same c.requires.left
    c.requires.right within c.requires.each c.loop-index.invariant c.in_ok-same.ensures.grows c.in_ok-same.ensures.made

pub returns-clause-made : goal.returns-clause-made
returns-clause-made c =
    let past : length c.args.a.now ≤ c.loop-index.index = omega arith in
    folded_all same_bits (λ r x y. r && not
    (differ x y)) same_steps c.args.gates.now c.loop-index.gates c.args.a.now c.args.b.now
    c.args.told c.loop-index.index c.loop-index.same past c.loop-index.invariant
