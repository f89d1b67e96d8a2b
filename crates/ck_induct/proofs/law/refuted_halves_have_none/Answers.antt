use Rattle.ck_induct.proofs.Both.{none_of_halves}
use Rattle.ck_induct.proofs.law.refuted_halves_have_none.Goals as goal

pub returns : goal.returns
returns c = none_of_halves
