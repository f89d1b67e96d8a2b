use Rattle.std.specs.Prelude.{◌≡◌, ◌≤◌, ◌+◌, ◌*◌, drop, length}
use Rattle.vl_mean.specs.Cells.{cells}
use Rattle.vl_lower.specs.Added.{cells_added}
use Rattle.vl_lower.specs.Design.{keeping}
use Rattle.vl_lower.proofs.Sums.{SoFar}
use Rattle.vl_lower.proofs.sources.Sources.add_cells.Given as goal

abbrev pub invariant-loop-cell : goal.invariant-loop-cell
invariant-loop-cell l = record {
  so_far : SoFar l.fn.self l.self
      (cells_added (keeping l.keeps) l.decl.width (l.first + l.cell) (l.name + l.cell) (length l.self.net.regs)
      (drop l.cell (cells l.decl)))
      (cells_added (keeping l.keeps) l.decl.width l.first l.name (length l.fn.self.net.regs) (cells l.decl));
  here : length l.self.cells ≡ l.first + l.cell;
  few : length l.self.net.regs ≤ 128 * (l.first + l.cell);
}
