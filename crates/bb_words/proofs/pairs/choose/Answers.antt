use Rattle.std.specs.Prelude.{◌<◌, ◌≤◌, length}
use Rattle.std.proofs.Common.{arith}
use Rattle.bb_aig.specs.Graph.{lit_at}
use Rattle.bb_aig.specs.Bits.{pick}
use Rattle.bb_words.proofs.Lits.{meant}
use Rattle.bb_words.proofs.Pairing.{pairing_next, paired_all}
use Rattle.bb_words.proofs.pairs.choose.Goals as goal

pub loop-index-preserved : goal.loop-index-preserved
loop-index-preserved c =
    let old = c.args.gates.now in
    let now = c.loop-index.gates in
    let within : c.loop-index.index < length c.args.a.now = omega arith in
    pairing_next (λ x. pick (lit_at old x c.args.test)) old now c.mux.new.gates c.args.a.now c.args.b.now
    c.loop-index.index _ _
    c.loop-index.out.items c.push.new.self.items c.in_ok-bit.bit c.requires.left c.requires.right within c.requires.each
    c.loop-index.invariant c.in_ok-bit.ensures.grows
    (λ f h p q. c.in_ok-bit.ensures.made (λ x. lit_at old x c.args.test) f h
    (meant old now c.args.test c.loop-index.invariant.grows c.requires.test) p q) c.in_ok-push.ensures.items

pub returns-clause-made : goal.returns-clause-made
returns-clause-made c =
    let old = c.args.gates.now in
    let past : length c.args.a.now ≤ c.loop-index.index = omega arith in
    paired_all (λ x. pick (lit_at old x c.args.test)) old c.loop-index.gates c.args.a.now c.args.b.now
    c.loop-index.index
    c.loop-index.out.items past c.loop-index.invariant
