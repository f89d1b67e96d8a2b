use Rattle.std.proofs.Common.{List, drop}
use Rattle.vl_flow_spec.specs.Paths.{labels_read}
use Rattle.vl_flow_cells.specs.declared.cell_run.CellRun.{CellRun}
use Rattle.vl_flow_cells.specs.Numbered.{Adds}
use Rattle.vl_flow_cells.specs.Sized.{LabelsAreSized}
use Rattle.vl_flow_cells.proofs.reads.labels_read.Given as goal

abbrev pub invariant-loop-label : goal.invariant-loop-label
invariant-loop-label l = record {
  left : LabelsAreSized l.decls l.all → LabelsAreSized l.decls (drop l.label-index l.all);
  added : LabelsAreSized l.decls l.all → (zs : List CellRun)
      → Adds l.decls l.into.items zs (labels_read l.decls (drop l.label-index l.all))
      → Adds l.decls l.initial.into.items zs (labels_read l.decls l.all);
}
