use Rattle.ck_induct.proofs.OneCycle.{properties_are_of_maps}
use Rattle.ck_induct.proofs.law.properties_are_of_maps.Goals as goal

pub returns : goal.returns
returns c = properties_are_of_maps
