use Rattle.bb_words.proofs.Numbers.{word_zeros}
use Rattle.bb_words.proofs.ends.zero_extended.Goals as goal

pub returns : goal.returns
returns c =
    word_zeros c.args.gates.now c.args.word.now c.in_ok-made.made.items c.from_vec.result c.args.width
    c.constant-none.result c.requires.wider c.requires.there c.constant-none.ensures c.in_ok-made.ensures
    c.from_vec.ensures
