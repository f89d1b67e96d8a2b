use Rattle.vl_elab_const.proofs.Extents.{no_words, some_words}
use Rattle.vl_elab_const.proofs.ranges.words_in.Goals as goal

pub returns-in-None : goal.returns-in-None
returns-in-None c = λ ss h b. no_words ss c.args.range.now c.in-None.is

pub returns-in_ok-pair-in-Some : goal.returns-in_ok-pair-in-Some
returns-in_ok-pair-in-Some c = λ ss h b.
    some_words ss c.args.range.now c.in-Some.range c.in_ok-pair-in-Some.pair c.in-Some.is (c.in_ok-pair-in-Some.ensures ss h) b
