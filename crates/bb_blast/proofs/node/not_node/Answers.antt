use Rattle.std.specs.Prelude.{ℕ, Bool, length, slice_index}
use Rattle.std.proofs.Common.{arith}
use Rattle.fv_bits.specs.Bits as num
use Rattle.bb_blast.proofs.Nodes.{word_is, one_word}
use Rattle.bb_blast.proofs.node.not_node.Goals as goal

pub word_at-requires : goal.word_at-requires
word_at-requires c = omega (arith, c.requires.words.each, c.requires.fitting)

pub returns : goal.returns
returns c = λ wi ws given means fits words.
    let graph = c.args.gates.now in
    let p = word_is graph ws means c.args.table.now c.args.a c.word_at.result.now c.word_at.ensures words fits in
    one_word graph graph num.complement (slice_index ws c.args.a) (length c.word_at.result.now)
    (slice_index ws c.args.a)
    (λ (x : ℕ → Bool). slice_index (means x) c.args.a) c.word_at.result.now c.in_ok-made.made p p.wide
    (c.in_ok-made.ensures graph p.there)
