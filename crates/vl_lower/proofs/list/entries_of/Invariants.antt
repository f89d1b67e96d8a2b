use Rattle.std.specs.Prelude.{◌≡◌, ◌+◌, ◌++◌, drop, length}
use Rattle.vl_flow_cells.specs.Numbered.{all_cells}
use Rattle.vl_lower.specs.Listed.{entries_by}
use Rattle.vl_lower.proofs.list.entries_of.Given as goal

abbrev pub invariant-loop-index : goal.invariant-loop-index
invariant-loop-index l = record {
  rest : l.list ++ entries_by l.firsts (drop l.index l.decls) l.cells l.first l.memory
      ≡ entries_by l.firsts l.decls l.cells 0 0;
  there : l.first + length (all_cells (drop l.index l.decls)) ≡ length l.cells;
}
