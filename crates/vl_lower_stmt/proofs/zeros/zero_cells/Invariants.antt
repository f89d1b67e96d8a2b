use Rattle.std.proofs.Common.{take}
use Rattle.vl_lower_assign.specs.Frames.{cell_widths}
use Rattle.wn_net.specs.Changes.{AddsNodes}
use Rattle.vl_lower_stmt.specs.Zeros.{AreZeros}
use Rattle.vl_lower_stmt.proofs.zeros.zero_cells.Given as goal

abbrev pub invariant-loop-index : goal.invariant-loop-index
invariant-loop-index l = record {
  adds : AddsNodes l.fn.net l.net;
  zeros : AreZeros l.net (cell_widths (take l.index l.decls)) l.cells.items;
}
