use Rattle.sat_propagate.proofs.Changes.{pushed_on}
use Rattle.sat_propagate.proofs.laws.kept_as_entries_come.Goals as goal

pub returns : goal.returns
returns c = pushed_on
