-- The law of proofs.
use Rattle.lrat_texts.proofs.Steps.{steps_law}
use Rattle.lrat_texts.proofs.law.proofs_say_what_is_read.Goals as goal

pub returns : goal.returns
returns c = steps_law
