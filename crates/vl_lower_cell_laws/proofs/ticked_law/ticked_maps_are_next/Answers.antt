use Rattle.vl_lower_cell_laws.proofs.Next.{may_come}
use Rattle.vl_lower_cell_laws.proofs.ticked_law.ticked_maps_are_next.Goals as goal

pub returns : goal.returns
returns c = may_come
