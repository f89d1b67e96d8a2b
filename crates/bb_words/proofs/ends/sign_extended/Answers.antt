use Rattle.bb_words.proofs.Numbers.{word_signs}
use Rattle.bb_words.proofs.ends.sign_extended.Goals as goal

pub returns : goal.returns
returns c = λ graph h.
    word_signs graph c.args.word.now c.in_ok-made.made.items c.from_vec.result c.args.width c.top.result
    c.requires.some c.requires.wider h (c.top.ensures.there graph h) (c.top.ensures.value graph) c.in_ok-made.ensures
    c.from_vec.ensures
