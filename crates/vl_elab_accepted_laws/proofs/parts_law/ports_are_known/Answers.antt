use Rattle.vl_elab_accepted_laws.proofs.Parting.{known_port}
use Rattle.vl_elab_accepted_laws.proofs.parts_law.ports_are_known.Goals as goal

pub returns : goal.returns
returns c = known_port
