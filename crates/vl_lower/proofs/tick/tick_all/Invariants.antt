use Rattle.std.specs.Prelude.{◌≡◌, [], take}
use Rattle.vl_lower_assign.specs.Frames.{cells_of}
use Rattle.vl_lower_cell_laws.specs.Cycles.{TicksAll}
use Rattle.vl_lower.proofs.tick.tick_all.Given as goal

abbrev pub invariant-loop-at : goal.invariant-loop-at
invariant-loop-at l = record {
  done : TicksAll l.layout.decls.now l.fn.net l.net (cells_of l.fn.frame) (cells_of l.frame) l.nodes
      (take l.at l.drivers);
  empty : l.frame.assumed ≡ [];
  log : l.frame.log ≡ [];
  now : l.frame.now.items ≡ l.fn.frame.now.items;
}
