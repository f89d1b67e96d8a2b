use Rattle.vl_elab_accepted_laws.proofs.Joining.{known_connection}
use Rattle.vl_elab_accepted_laws.proofs.parts_law.connections_are_known.Goals as goal

pub returns : goal.returns
returns c = known_connection
