use Rattle.std.specs.Prelude.{◌<◌, ◌≤◌, length}
use Rattle.std.proofs.Common.{arith}
use Rattle.bb_aig.specs.Bits.{differ, less_bits, pick}
use Rattle.bb_words.proofs.Folding.{less_steps, folding_next, folded_all}
use Rattle.bb_words.proofs.pairs.is_less.Goals as goal

pub loop-index-preserved : goal.loop-index-preserved
loop-index-preserved c =
    let within : c.loop-index.index < length c.args.a.now = omega arith in
    folding_next less_bits (λ r x y. pick
    (differ x y) y r) less_steps c.args.gates.now c.loop-index.gates c.less_step.new.gates
    c.args.a.now c.args.b.now c.args.below c.loop-index.index _ _ c.loop-index.less c.in_ok-less.less c.requires.left
    c.requires.right within c.requires.each c.loop-index.invariant c.in_ok-less.ensures.grows c.in_ok-less.ensures.made

pub returns-clause-made : goal.returns-clause-made
returns-clause-made c =
    let past : length c.args.a.now ≤ c.loop-index.index = omega arith in
    folded_all less_bits (λ r x y. pick
    (differ x y) y r) less_steps c.args.gates.now c.loop-index.gates c.args.a.now c.args.b.now
    c.args.below c.loop-index.index c.loop-index.less past c.loop-index.invariant
