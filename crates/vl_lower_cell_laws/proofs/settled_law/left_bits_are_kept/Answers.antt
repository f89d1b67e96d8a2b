use Rattle.vl_lower_cell_laws.proofs.Keeps.{kept_bits}
use Rattle.vl_lower_cell_laws.proofs.settled_law.left_bits_are_kept.Goals as goal

pub returns : goal.returns
returns c = kept_bits
