use Rattle.std.specs.Prelude.{◌≡◌, [], take}
use Rattle.vl_lower_assign.specs.Frames.{cells_of}
use Rattle.vl_lower_cell_laws.specs.Cycles.{SettlesAll}
use Rattle.vl_lower.proofs.settle.settle_all.Given as goal

abbrev pub invariant-loop-at : goal.invariant-loop-at
invariant-loop-at l = record {
  done : SettlesAll l.layout.decls.now l.fn.net l.net (cells_of l.fn.frame) (cells_of l.frame) l.nodes l.drivers
      (take l.at l.sequence);
  empty : l.frame.assumed ≡ [];
}
