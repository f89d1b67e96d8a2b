-- The laws of what is written.
use Rattle.lrat_texts.proofs.Written.{written_formula, written_steps}
use Rattle.lrat_texts.proofs.law.texts_say_what_was_written.Goals as goal

pub returns : goal.returns
returns c = record { formula = written_formula; steps = written_steps }
