use Rattle.std.specs.Prelude.{ℕ, Bool, slice_index}
use Rattle.std.proofs.Common.{refl, arith}
use Rattle.bb_words.proofs.Lits.{lit_in}
use Rattle.bb_blast.proofs.Nodes.{operands, word_is, of_width}
use Rattle.bb_blast.proofs.Nodes.{choice_word}
use Rattle.bb_blast.proofs.node.mux_node.Goals as goal

pub word_at-tests-requires : goal.word_at-tests-requires
word_at-tests-requires c = omega (arith, c.requires.words.each, c.requires.fitting.0)

pub word_at-left-requires : goal.word_at-left-requires
word_at-left-requires c = omega (arith, c.requires.words.each, c.requires.fitting.2.0)

pub word_at-right-requires : goal.word_at-right-requires
word_at-right-requires c = omega (arith, c.requires.words.each, c.requires.fitting.2.1)

pub bounds-tests-0 : goal.bounds-tests-0
bounds-tests-0 c =
    let t = word_is c.args.gates.now c.requires.node_widths c.requires.means c.args.table.now c.args.test
    c.word_at-tests.result.now c.word_at-tests.ensures c.requires.words c.requires.fitting.0 in
    omega (arith, t.wide, c.requires.fitting.1)

pub chosen-requires-clause-test : goal.chosen-requires-clause-test
chosen-requires-clause-test c =
    let t = word_is c.args.gates.now c.requires.node_widths c.requires.means c.args.table.now c.args.test
    c.word_at-tests.result.now c.word_at-tests.ensures c.requires.words c.requires.fitting.0 in
    lit_in c.args.gates.now c.word_at-tests.result.now 0 _ t.there (omega (arith, t.wide, c.requires.fitting.1))

pub chosen-requires-clause-each : goal.chosen-requires-clause-each
chosen-requires-clause-each c =
    (operands c.args.gates.now c.requires.node_widths c.requires.means c.args.table.now c.args.a c.args.b
    c.word_at-left.result.now c.word_at-right.result.now c.word_at-left.ensures c.word_at-right.ensures
    c.requires.fitting.2 c.requires.small c.requires.words).each

pub chosen-requires-clause-left : goal.chosen-requires-clause-left
chosen-requires-clause-left c =
    (operands c.args.gates.now c.requires.node_widths c.requires.means c.args.table.now c.args.a c.args.b
    c.word_at-left.result.now c.word_at-right.result.now c.word_at-left.ensures c.word_at-right.ensures
    c.requires.fitting.2 c.requires.small c.requires.words).left

pub chosen-requires-clause-right : goal.chosen-requires-clause-right
chosen-requires-clause-right c =
    (operands c.args.gates.now c.requires.node_widths c.requires.means c.args.table.now c.args.a c.args.b
    c.word_at-left.result.now c.word_at-right.result.now c.word_at-left.ensures c.word_at-right.ensures
    c.requires.fitting.2 c.requires.small c.requires.words).right

pub returns-clause-word : goal.returns-clause-word
returns-clause-word c = λ wi ws given means fits words.
    let old = c.args.gates.now in
    let test = λ (x : ℕ → Bool). slice_index (means x) c.args.test in
    let t = of_width old (slice_index ws c.args.test) 1 test c.word_at-tests.result.now fits.1
    (word_is old ws means c.args.table.now c.args.test c.word_at-tests.result.now c.word_at-tests.ensures words
    fits.0) in
    let p = word_is old ws means c.args.table.now c.args.a c.word_at-left.result.now c.word_at-left.ensures words
    fits.2.0 in
    let q = word_is old ws means c.args.table.now c.args.b c.word_at-right.result.now c.word_at-right.ensures words
    fits.2.1 in
    choice_word old c.chosen.new.gates (slice_index ws c.args.a) (slice_index ws c.args.b) test (λ (x : ℕ
    → Bool). slice_index (means x) c.args.a)
    (λ (x : ℕ → Bool). slice_index (means x) c.args.b) c.word_at-tests.result.now c.word_at-left.result.now
    c.word_at-right.result.now c.in_ok-made.made _ _ refl t p q c.in_ok-made.ensures.word
