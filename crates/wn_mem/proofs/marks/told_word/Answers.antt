use Rattle.std.proofs.Common.{◌∙◌}
use Rattle.wn_mem.specs.Words.{numbers_of}
use Rattle.wn_mem.proofs.Telling.{first_word}
use Rattle.wn_mem.proofs.marks.told_word.Goals as goal

pub returns-then-not-is_empty-clause-value : goal.returns-then-not-is_empty-clause-value
returns-then-not-is_empty-clause-value c = λ g n few tell.
    c.in_ok-found.ensures.value g n tell ∙ first_word n (numbers_of c.args.net.now g c.args.words.now)
