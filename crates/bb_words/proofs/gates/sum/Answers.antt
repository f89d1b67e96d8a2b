use Rattle.bb_words.proofs.Made as made
use Rattle.bb_words.proofs.gates.sum.Goals as goal

pub add-requires-clause-below : goal.add-requires-clause-below
add-requires-clause-below c = c.constant-none.ensures.there

pub returns-clause-word : goal.returns-clause-word
returns-clause-word c =
    made.pair_sum c.args.gates.now c.add.new.gates c.constant-none.result c.args.a.now c.args.b.now
    c.in_ok-made.made.items
    c.from_vec.result c.requires.each c.constant-none.ensures c.in_ok-made.ensures.made c.from_vec.ensures
