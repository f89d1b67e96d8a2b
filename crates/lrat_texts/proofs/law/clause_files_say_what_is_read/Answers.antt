-- The law of clause files.
use Rattle.lrat_texts.proofs.Formulas.{formula_law}
use Rattle.lrat_texts.proofs.law.clause_files_say_what_is_read.Goals as goal

pub returns : goal.returns
returns c = formula_law
