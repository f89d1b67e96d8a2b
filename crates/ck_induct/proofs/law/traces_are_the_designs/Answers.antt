use Rattle.ck_induct.proofs.Traced.{traced}
use Rattle.ck_induct.proofs.law.traces_are_the_designs.Goals as goal

pub returns : goal.returns
returns c = traced
