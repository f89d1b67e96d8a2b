use Rattle.std.specs.Prelude.{◌<◌, ◌≤◌, length}
use Rattle.std.proofs.Common.{arith}
use Rattle.bb_words.specs.WordsOperators.{of_operator}
use Rattle.bb_words.proofs.Pairing.{pairing_next, paired_all}
use Rattle.bb_words.proofs.pairs.operate.Goals as goal

pub loop-index-preserved : goal.loop-index-preserved
loop-index-preserved c =
    let within : c.loop-index.index < length c.args.a.now = omega arith in
    pairing_next (λ x. of_operator c.args.operator) c.args.gates.now c.loop-index.gates c.gate.new.gates c.args.a.now
    c.args.b.now
    c.loop-index.index _ _ c.loop-index.out.items c.push.new.self.items c.in_ok-bit.bit c.requires.left
    c.requires.right within
    c.requires.each c.loop-index.invariant c.in_ok-bit.ensures.grows c.in_ok-bit.ensures.made c.in_ok-push.ensures.items

pub returns-clause-made : goal.returns-clause-made
returns-clause-made c =
    let past : length c.args.a.now ≤ c.loop-index.index = omega arith in
    paired_all (λ x. of_operator c.args.operator) c.args.gates.now c.loop-index.gates c.args.a.now c.args.b.now
    c.loop-index.index
    c.loop-index.out.items past c.loop-index.invariant
