use Rattle.std.proofs.Common.{List, drop}
use Rattle.vl_tree.specs.Expr.{exprs}
use Rattle.vl_tree.specs.ExprView.{selects}
use Rattle.vl_flow_spec.specs.Reads.{parts_read, selects_read}
use Rattle.vl_flow_cells.specs.declared.cell_run.CellRun.{CellRun}
use Rattle.vl_flow_cells.specs.Numbered.{Adds}
use Rattle.vl_flow_cells.specs.Sized.{AreSized, SelectsAreSized}
use Rattle.vl_flow_cells.proofs.reads.+reads.Given as goal

abbrev pub invariant-all_read-loop-part : goal.invariant-all_read-loop-part
invariant-all_read-loop-part l = record {
  left : AreSized l.decls (exprs l.all) → AreSized l.decls (exprs (drop l.part-index l.all));
  added : AreSized l.decls (exprs l.all) → (zs : List CellRun)
      → Adds l.decls l.into.items zs (parts_read l.decls (exprs (drop l.part-index l.all)))
      → Adds l.decls l.initial.into.items zs (parts_read l.decls (exprs l.all));
}

abbrev pub invariant-selects_read-loop-select : goal.invariant-selects_read-loop-select
invariant-selects_read-loop-select l = record {
  left : SelectsAreSized l.decls (selects l.all) → SelectsAreSized l.decls (selects (drop l.select-index l.all));
  added : SelectsAreSized l.decls (selects l.all) → (zs : List CellRun)
      → Adds l.decls l.into.items zs (selects_read l.decls (selects (drop l.select-index l.all)))
      → Adds l.decls l.initial.into.items zs (selects_read l.decls (selects l.all));
}
