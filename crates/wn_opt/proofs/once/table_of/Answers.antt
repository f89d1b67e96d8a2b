use Rattle.wn_opt.proofs.Tables.{table_none}
use Rattle.wn_opt.proofs.once.table_of.Goals as goal

pub loop-index-init : goal.loop-index-init
loop-index-init c = table_none c.new-table.result c.new-table.ensures
