use Rattle.bb_words.proofs.Made as made
use Rattle.bb_words.proofs.gates.right.Goals as goal

pub shift-requires-clause-fill : goal.shift-requires-clause-fill
shift-requires-clause-fill c = c.constant-fill.ensures.there

pub returns-clause-word : goal.returns-clause-word
returns-clause-word c =
    made.shift_right_made c.args.gates.now c.shift.new.gates c.constant-fill.result c.args.word.now c.args.by.now
    c.in_ok-made.made.items c.from_vec.result c.constant-fill.ensures c.in_ok-made.ensures.made c.from_vec.ensures
