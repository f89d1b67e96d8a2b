use Rattle.std.proofs.Common.{List, drop}
use Rattle.vl_tree.specs.Lval.{lvals}
use Rattle.vl_flow_spec.specs.Paths.{any_sets}
use Rattle.vl_flow_cells.specs.declared.cell_run.CellRun.{CellRun}
use Rattle.vl_flow_cells.specs.Numbered.{Adds}
use Rattle.vl_flow_cells.specs.Sized.{TargetsAreSized}
use Rattle.vl_flow_cells.proofs.targets.+sets.Given as goal

abbrev pub invariant-loop-part : goal.invariant-loop-part
invariant-loop-part l = record {
  left : TargetsAreSized l.decls (lvals l.part-items)
      → TargetsAreSized l.decls (lvals (drop l.part-index l.part-items));
  added : TargetsAreSized l.decls (lvals l.part-items) → (zs : List CellRun)
      → Adds l.decls l.into.items zs (any_sets l.decls (lvals (drop l.part-index l.part-items)))
      → Adds l.decls l.initial.into.items zs (any_sets l.decls (lvals l.part-items));
}
