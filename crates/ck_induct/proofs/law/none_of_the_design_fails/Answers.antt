use Rattle.ck_induct.proofs.Both.{none_fails_ever}
use Rattle.ck_induct.proofs.law.none_of_the_design_fails.Goals as goal

pub returns : goal.returns
returns c = none_fails_ever
