use Rattle.std.proofs.Common.{take}
use Rattle.vl_lower_assign.specs.Frames.{cells_of}
use Rattle.vl_lower_stmt.specs.First.{Starts, all_written}
use Rattle.vl_lower_stmt.proofs.first.first_numbers.Given as goal

abbrev pub invariant-loop-start : goal.invariant-loop-start
invariant-loop-start l =
    Starts l.decls l.initial.net l.net (cells_of l.initial.frame) (cells_of l.frame)
    (all_written l.decls (take l.start-index l.starts))
