use Rattle.std.specs.Prelude.{ℕ, Bool, slice_index}
use Rattle.std.proofs.Common.{arith}
use Rattle.bb_blast.proofs.Nodes.{word_is, joined_word}
use Rattle.bb_blast.proofs.node.concat_node.Goals as goal

pub word_at-high-requires : goal.word_at-high-requires
word_at-high-requires c = omega (arith, c.requires.words.each, c.requires.fitting.0)

pub word_at-low-requires : goal.word_at-low-requires
word_at-low-requires c = omega (arith, c.requires.words.each, c.requires.fitting.1)

pub returns : goal.returns
returns c = λ wi ws given means fits words.
    let graph = c.args.gates.now in
    let p = word_is graph ws means c.args.table.now c.args.a c.word_at-high.result.now c.word_at-high.ensures words
    fits.0 in
    let q = word_is graph ws means c.args.table.now c.args.b c.word_at-low.result.now c.word_at-low.ensures words
    fits.1 in
    joined_word graph (slice_index ws c.args.a) (slice_index ws c.args.b) (λ (x : ℕ → Bool). slice_index
    (means x) c.args.a)
    (λ (x : ℕ → Bool). slice_index (means x) c.args.b) c.word_at-high.result.now c.word_at-low.result.now
    c.in_ok-made.made p q (c.in_ok-made.ensures graph p.there q.there)
