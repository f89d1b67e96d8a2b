use Rattle.rvf_core.proofs.Proves.{proves}
use Rattle.rvf_core.proofs.proved_law.proofs_are_meant.Goals as goal

pub returns : goal.returns
returns c = proves
