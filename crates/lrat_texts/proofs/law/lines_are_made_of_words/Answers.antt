-- The law of words.
use Rattle.lrat_texts.proofs.Words.{words_law}
use Rattle.lrat_texts.proofs.law.lines_are_made_of_words.Goals as goal

pub returns : goal.returns
returns c = words_law
