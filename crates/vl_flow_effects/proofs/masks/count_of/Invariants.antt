use Rattle.std.proofs.Common.{◌≡◌}
use Rattle.vl_flow_cells.specs.Numbered.{first_cell}
use Rattle.vl_flow_effects.proofs.masks.count_of.Given as goal

abbrev pub invariant-loop-index : goal.invariant-loop-index
invariant-loop-index l = l.count ≡ first_cell l.decls l.index
