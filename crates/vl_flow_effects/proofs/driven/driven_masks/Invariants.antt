use Rattle.std.proofs.Common.{take}
use Rattle.vl_mean.specs.Runs.{is_driven}
use Rattle.vl_flow_cells.specs.Numbered.{Shows}
use Rattle.vl_flow_order.specs.Sets.{some_has}
use Rattle.vl_flow_effects.proofs.Blocks.{driver_parts}
use Rattle.vl_flow_effects.proofs.driven.driven_masks.Given as goal

abbrev pub invariant-loop-driver : goal.invariant-loop-driver
invariant-loop-driver l =
    Shows l.decls (some_has l.sets.items) (is_driven (driver_parts l.decls (take l.driver-index l.drivers)))
