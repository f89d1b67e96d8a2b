-- The law of lines.
use Rattle.lrat_texts.proofs.Lines.{lines_law}
use Rattle.lrat_texts.proofs.law.texts_are_made_of_lines.Goals as goal

pub returns : goal.returns
returns c = lines_law
