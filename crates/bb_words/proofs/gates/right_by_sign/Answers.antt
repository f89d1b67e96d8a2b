use Rattle.bb_words.proofs.Made as made
use Rattle.bb_words.proofs.gates.right_by_sign.Goals as goal

pub shift-requires-clause-fill : goal.shift-requires-clause-fill
shift-requires-clause-fill c = c.top-fill.ensures.there c.args.gates.now c.requires.left

pub returns-clause-word : goal.returns-clause-word
returns-clause-word c =
    made.shift_sign_made c.args.gates.now c.shift.new.gates c.top-fill.result c.args.word.now c.args.by.now
    c.in_ok-made.made.items c.from_vec.result c.requires.some (c.top-fill.ensures.value c.args.gates.now)
    c.in_ok-made.ensures.made c.from_vec.ensures
