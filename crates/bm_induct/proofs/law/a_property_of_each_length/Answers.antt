use Rattle.bm_induct.proofs.ByLength.{each_length}
use Rattle.bm_induct.proofs.law.a_property_of_each_length.Goals as goal

pub returns : goal.returns
returns c = each_length
