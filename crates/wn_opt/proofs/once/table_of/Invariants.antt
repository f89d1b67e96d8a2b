use Rattle.std.specs.Prelude.{take}
use Rattle.wn_opt.specs.Table.{IsTableOf}
use Rattle.wn_opt.proofs.once.table_of.Given as goal

abbrev pub invariant-loop-index : goal.invariant-loop-index
invariant-loop-index l = IsTableOf (take l.index l.nodes) l.table
