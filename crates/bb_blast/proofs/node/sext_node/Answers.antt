use Rattle.std.specs.Prelude.{ℕ, Bool, slice_index}
use Rattle.std.proofs.Common.{refl, arith}
use Rattle.fv_bits.specs.Bits as num
use Rattle.bb_blast.proofs.Nodes.{word_is, one_word}
use Rattle.bb_blast.proofs.node.sext_node.Goals as goal

pub word_at-requires : goal.word_at-requires
word_at-requires c = omega (arith, c.requires.words.each, c.requires.fitting.0)

pub sign_extended-requires-clause-some : goal.sign_extended-requires-clause-some
sign_extended-requires-clause-some c =
    let p = word_is c.args.gates.now c.requires.node_widths c.requires.means c.args.table.now c.args.a
    c.word_at.result.now c.word_at.ensures c.requires.words c.requires.fitting.0 in
    omega (arith, p.wide, (c.requires.small c.args.a c.requires.fitting.0).0)

pub sign_extended-requires-clause-wider : goal.sign_extended-requires-clause-wider
sign_extended-requires-clause-wider c =
    let p = word_is c.args.gates.now c.requires.node_widths c.requires.means c.args.table.now c.args.a
    c.word_at.result.now c.word_at.ensures c.requires.words c.requires.fitting.0 in
    omega (arith, p.wide, c.requires.fitting.1)

pub returns : goal.returns
returns c = λ wi ws given means fits words.
    let graph = c.args.gates.now in
    let p = word_is graph ws means c.args.table.now c.args.a c.word_at.result.now c.word_at.ensures words fits.0 in
    one_word graph graph (λ w k. num.sign_extended w c.args.width k)
    (slice_index ws c.args.a) c.args.width c.args.width
    (λ (x : ℕ → Bool). slice_index (means x) c.args.a) c.word_at.result.now c.in_ok-made.made p refl
    (c.in_ok-made.ensures graph p.there)
