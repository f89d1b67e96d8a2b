-- The laws of one thing.
use Rattle.lrat_texts.proofs.Written.{one_formula, one_proof}
use Rattle.lrat_texts.proofs.law.texts_say_one_thing.Goals as goal

pub returns : goal.returns
returns c = record { formula = one_formula; steps = one_proof }
