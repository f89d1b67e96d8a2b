use Rattle.sat_propagate.proofs.Changes.{cut_on}
use Rattle.sat_propagate.proofs.laws.kept_as_the_trail_is_cut.Goals as goal

pub returns : goal.returns
returns c = cut_on
