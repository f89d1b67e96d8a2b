use Rattle.vl_flow_effects.proofs.CellMasks.{AreMasksBelow}
use Rattle.vl_flow_effects.proofs.masks.masks_of.Given as goal

abbrev pub invariant-loop-cell : goal.invariant-loop-cell
invariant-loop-cell l = AreMasksBelow l.bits l.masks l.cell
