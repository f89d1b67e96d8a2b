use Rattle.bb_words.proofs.Made as made
use Rattle.bb_words.proofs.gates.less.Goals as goal

pub is_less-requires-clause-below : goal.is_less-requires-clause-below
is_less-requires-clause-below c = c.constant-none.ensures.there

pub returns-clause-word : goal.returns-clause-word
returns-clause-word c =
    made.pair_less c.args.gates.now c.is_less.new.gates c.constant-none.result c.in_ok-lit.lit c.args.a.now
    c.args.b.now c.in_ok-made.made
    c.requires.each c.constant-none.ensures c.in_ok-lit.ensures.made c.in_ok-made.ensures
