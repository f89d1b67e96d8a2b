use Rattle.std.specs.Prelude.{◌<◌, ◌≤◌, length}
use Rattle.std.proofs.Common.{arith}
use Rattle.bb_words.proofs.Adding.{adding_next, added_all}
use Rattle.bb_words.proofs.pairs.add.Goals as goal

pub loop-index-preserved : goal.loop-index-preserved
loop-index-preserved c =
    let within : c.loop-index.index < length c.args.a.now = omega arith in
    adding_next c.args.gates.now c.loop-index.gates c.add_three.new.gates c.args.a.now c.args.b.now c.args.below
    c.loop-index.index _ _ c.loop-index.out.items c.push.new.self.items c.loop-index.carry c.in_ok-sum.sum.bit
    c.in_ok-sum.sum.carry c.requires.left c.requires.right within c.requires.each c.loop-index.invariant
    c.in_ok-sum.ensures.grows c.in_ok-sum.ensures.bit c.in_ok-sum.ensures.carry c.in_ok-push.ensures.items

pub returns-clause-made : goal.returns-clause-made
returns-clause-made c =
    let past : length c.args.a.now ≤ c.loop-index.index = omega arith in
    added_all c.args.gates.now c.loop-index.gates c.args.a.now c.args.b.now c.args.below c.loop-index.index
    c.loop-index.out.items c.loop-index.carry past c.loop-index.invariant
