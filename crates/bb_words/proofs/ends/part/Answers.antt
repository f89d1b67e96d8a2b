use Rattle.std.specs.Prelude.{◌≡◌, ◌+◌, ◌-◌, take, drop}
use Rattle.std.proofs.Common.{arith, ap, ◌∙◌}
use Rattle.bb_words.proofs.Numbers.{word_part}
use Rattle.bb_words.proofs.ends.part.Goals as goal

pub returns : goal.returns
returns c = λ graph h.
    let e : c.args.low + c.args.width - c.args.low ≡ c.args.width = omega arith in
    let is : c.in_ok-made.made.items ≡ take c.args.width (drop c.args.low c.args.word.now) =
    c.in_ok-made.ensures.items ∙ ap (λ m. take m (drop c.args.low c.args.word.now)) e in
    word_part graph c.args.word.now c.in_ok-made.made.items c.from_vec.result c.args.low c.args.width c.requires h is
    c.from_vec.ensures
