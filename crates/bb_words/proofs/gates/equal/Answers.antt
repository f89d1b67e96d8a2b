use Rattle.bb_words.proofs.Made as made
use Rattle.bb_words.proofs.gates.equal.Goals as goal

pub is_same-requires-clause-told : goal.is_same-requires-clause-told
is_same-requires-clause-told c = c.constant-yes.ensures.there

pub returns-clause-word : goal.returns-clause-word
returns-clause-word c =
    made.pair_equal c.args.gates.now c.is_same.new.gates c.constant-yes.result c.in_ok-lit.lit c.args.a.now
    c.args.b.now c.in_ok-made.made
    c.requires.each c.constant-yes.ensures c.in_ok-lit.ensures.made c.in_ok-made.ensures
