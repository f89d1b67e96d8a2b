use Rattle.bb_words.proofs.Made as made
use Rattle.bb_words.proofs.gates.chosen.Goals as goal

pub returns-clause-word : goal.returns-clause-word
returns-clause-word c =
    made.choice_made c.args.gates.now c.choose.new.gates c.args.test c.args.a.now c.args.b.now c.in_ok-made.made.items
    c.from_vec.result c.requires.each c.in_ok-made.ensures.made c.from_vec.ensures
