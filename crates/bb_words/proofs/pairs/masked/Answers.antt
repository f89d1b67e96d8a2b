use Rattle.std.specs.Prelude.{◌<◌, ◌≤◌, ◌&&◌, refl, length, map}
use Rattle.std.proofs.Common.{arith}
use Rattle.bb_aig.specs.Graph.{lit_at}
use Rattle.bb_aig.specs.Bits.{paired}
use Rattle.bb_aig.specs.Gates.{bits}
use Rattle.bb_words.proofs.Lits.{meant, are_made_by}
use Rattle.bb_words.proofs.Pairing.{pairing_next, paired_all}
use Rattle.bb_words.proofs.Masking.{paired_masked}
use Rattle.bb_words.proofs.pairs.masked.Goals as goal

pub loop-lit-preserved : goal.loop-lit-preserved
loop-lit-preserved c =
    let old = c.args.gates.now in
    let now = c.loop-lit.gates in
    let within : c.loop-lit.lit-index < length c.args.word.now = omega arith in
    pairing_next (λ x v w. lit_at old x c.args.bit && w) old now c.and.new.self c.args.word.now c.args.word.now
    c.loop-lit.lit-index 0 0 c.loop-lit.out.items c.push.new.self.items c.in_ok-both.both c.requires.word
    c.requires.word
    within refl c.loop-lit.invariant c.in_ok-both.ensures.grows
    (λ f h p q. c.in_ok-both.ensures.made (λ x. lit_at old x c.args.bit) h
    (meant old now c.args.bit c.loop-lit.invariant.grows c.requires.bit) q) c.in_ok-push.ensures.items

pub returns-clause-made : goal.returns-clause-made
returns-clause-made c =
    let old = c.args.gates.now in
    let word = c.args.word.now in
    let past : length word ≤ c.loop-lit.lit-index = omega arith in
    are_made_by c.loop-lit.gates
    (λ x. paired (λ v w. lit_at old x c.args.bit && w) (bits old x word) (bits old x word))
    (λ x. map (λ v. lit_at old x c.args.bit && v) (bits old x word)) c.loop-lit.out.items
    (λ x. paired_masked (lit_at old x c.args.bit) (bits old x word))
    (paired_all (λ x v w. lit_at old x c.args.bit && w) old c.loop-lit.gates word word c.loop-lit.lit-index
    c.loop-lit.out.items past c.loop-lit.invariant)
