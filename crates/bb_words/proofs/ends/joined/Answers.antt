use Rattle.std.specs.Prelude.{◌++◌}
use Rattle.std.proofs.Common.{ap, ◌∙◌}
use Rattle.bb_words.proofs.Numbers.{word_joined}
use Rattle.bb_words.proofs.ends.joined.Goals as goal

pub returns : goal.returns
returns c = λ graph h k.
    word_joined graph c.args.high.now c.args.low.now c.extend_from_slice.new.self.items c.from_vec.result h k
    (c.in_ok-extend_from_slice.ensures.items ∙ ap (λ ls. ls ++ c.args.high.now) c.in_ok-made.ensures.items)
    c.from_vec.ensures
