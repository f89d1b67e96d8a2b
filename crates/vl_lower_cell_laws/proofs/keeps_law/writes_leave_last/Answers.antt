use Rattle.vl_lower_cell_laws.proofs.Starting.{leave_last}
use Rattle.vl_lower_cell_laws.proofs.keeps_law.writes_leave_last.Goals as goal

pub returns : goal.returns
returns c = leave_last
