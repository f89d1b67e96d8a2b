use Rattle.bb_words.proofs.Made as made
use Rattle.bb_words.proofs.gates.product.Goals as goal

pub returns-clause-word : goal.returns-clause-word
returns-clause-word c =
    made.pair_product c.args.gates.now c.multiply.new.gates c.args.a.now c.args.b.now c.in_ok-made.made.items
    c.from_vec.result
    c.in_ok-made.ensures.made c.from_vec.ensures
