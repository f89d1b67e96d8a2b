use Rattle.std.specs.Prelude.{ℕ, Bool, slice_index}
use Rattle.std.proofs.Common.{arith}
use Rattle.bb_blast.proofs.Nodes.{word_is, shift_word}
use Rattle.bb_blast.proofs.node.shift_node.Goals as goal

pub word_at-word-requires : goal.word_at-word-requires
word_at-word-requires c = omega (arith, c.requires.words.each, c.requires.fitting.0)

pub word_at-by-requires : goal.word_at-by-requires
word_at-by-requires c = omega (arith, c.requires.words.each, c.requires.fitting.1)

pub shifted-requires-clause-some : goal.shifted-requires-clause-some
shifted-requires-clause-some c =
    let p = word_is c.args.gates.now c.requires.node_widths c.requires.means c.args.table.now c.args.a
    c.word_at-word.result.now c.word_at-word.ensures c.requires.words c.requires.fitting.0 in
    omega (arith, p.wide, (c.requires.small c.args.a c.requires.fitting.0).0)

pub shifted-requires-clause-left : goal.shifted-requires-clause-left
shifted-requires-clause-left c =
    (word_is c.args.gates.now c.requires.node_widths c.requires.means c.args.table.now c.args.a
    c.word_at-word.result.now c.word_at-word.ensures c.requires.words c.requires.fitting.0).there

pub shifted-requires-clause-right : goal.shifted-requires-clause-right
shifted-requires-clause-right c =
    (word_is c.args.gates.now c.requires.node_widths c.requires.means c.args.table.now c.args.b
    c.word_at-by.result.now c.word_at-by.ensures c.requires.words c.requires.fitting.1).there

pub returns-clause-word : goal.returns-clause-word
returns-clause-word c = λ ws means fits words.
    let old = c.args.gates.now in
    let p = word_is old ws means c.args.table.now c.args.a c.word_at-word.result.now c.word_at-word.ensures words
    fits.0 in
    let q = word_is old ws means c.args.table.now c.args.b c.word_at-by.result.now c.word_at-by.ensures words fits.1 in
    shift_word old c.shifted.new.gates c.args.operator (slice_index ws c.args.a) (slice_index ws c.args.b)
    (λ (x : ℕ → Bool). slice_index (means x) c.args.a) (λ (x : ℕ → Bool). slice_index (means x) c.args.b)
    c.word_at-word.result.now c.word_at-by.result.now c.in_ok-made.made p q c.in_ok-made.ensures.word
