use Rattle.vl_lower_cell_laws.proofs.KeepsWhole.{keep_bits}
use Rattle.vl_lower_cell_laws.proofs.keeps_law.registers_keep_bits.Goals as goal

pub returns : goal.returns
returns c = keep_bits
