use Rattle.std.specs.Prelude.{ℕ, Bool, slice_index}
use Rattle.std.proofs.Common.{arith}
use Rattle.bb_blast.proofs.Nodes.{operands, word_is, pair_word}
use Rattle.bb_blast.proofs.node.pair_node.Goals as goal

pub word_at-left-requires : goal.word_at-left-requires
word_at-left-requires c = omega (arith, c.requires.words.each, c.requires.fitting.0)

pub word_at-right-requires : goal.word_at-right-requires
word_at-right-requires c = omega (arith, c.requires.words.each, c.requires.fitting.1)

pub operated-requires-clause-some : goal.operated-requires-clause-some
operated-requires-clause-some c =
    (operands c.args.gates.now c.requires.node_widths c.requires.means c.args.table.now c.args.a c.args.b
    c.word_at-left.result.now c.word_at-right.result.now c.word_at-left.ensures c.word_at-right.ensures
    c.requires.fitting c.requires.small c.requires.words).some

pub operated-requires-clause-each : goal.operated-requires-clause-each
operated-requires-clause-each c =
    (operands c.args.gates.now c.requires.node_widths c.requires.means c.args.table.now c.args.a c.args.b
    c.word_at-left.result.now c.word_at-right.result.now c.word_at-left.ensures c.word_at-right.ensures
    c.requires.fitting c.requires.small c.requires.words).each

pub operated-requires-clause-left : goal.operated-requires-clause-left
operated-requires-clause-left c =
    (operands c.args.gates.now c.requires.node_widths c.requires.means c.args.table.now c.args.a c.args.b
    c.word_at-left.result.now c.word_at-right.result.now c.word_at-left.ensures c.word_at-right.ensures
    c.requires.fitting c.requires.small c.requires.words).left

pub operated-requires-clause-right : goal.operated-requires-clause-right
operated-requires-clause-right c =
    (operands c.args.gates.now c.requires.node_widths c.requires.means c.args.table.now c.args.a c.args.b
    c.word_at-left.result.now c.word_at-right.result.now c.word_at-left.ensures c.word_at-right.ensures
    c.requires.fitting c.requires.small c.requires.words).right

pub returns-clause-word : goal.returns-clause-word
returns-clause-word c = λ ws means fits words.
    let old = c.args.gates.now in
    let p = word_is old ws means c.args.table.now c.args.a c.word_at-left.result.now c.word_at-left.ensures words
    fits.0 in
    let q = word_is old ws means c.args.table.now c.args.b c.word_at-right.result.now c.word_at-right.ensures words
    fits.1 in
    pair_word old c.operated.new.gates c.args.operator (slice_index ws c.args.a) (slice_index ws c.args.b)
    (λ (x : ℕ → Bool). slice_index (means x) c.args.a) (λ (x : ℕ → Bool). slice_index (means x) c.args.b)
    c.word_at-left.result.now c.word_at-right.result.now c.in_ok-made.made p q c.in_ok-made.ensures.word
