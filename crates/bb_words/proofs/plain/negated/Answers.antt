use Rattle.bb_words.proofs.Numbers as plain
use Rattle.bb_words.proofs.plain.negated.Goals as goal

pub returns : goal.returns
returns c = λ graph h.
    plain.word_turned graph c.args.word.now c.in_ok-made.made.items c.from_vec.result h c.in_ok-made.ensures
    c.from_vec.ensures
