use Rattle.ck_induct.proofs.Both.{clauses_of_halves}
use Rattle.ck_induct.proofs.law.halves_have_their_clauses.Goals as goal

pub returns : goal.returns
returns c = clauses_of_halves
