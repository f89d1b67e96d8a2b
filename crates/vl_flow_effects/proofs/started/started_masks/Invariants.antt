use Rattle.std.proofs.Common.{take}
use Rattle.vl_flow_effects.specs.Masks.{begins}
use Rattle.vl_flow_cells.specs.Numbered.{Shows}
use Rattle.vl_flow_order.specs.Sets.{some_has}
use Rattle.vl_flow_effects.proofs.Starts.{start_parts}
use Rattle.vl_flow_effects.proofs.started.started_masks.Given as goal

abbrev pub invariant-loop-start : goal.invariant-loop-start
invariant-loop-start l =
    Shows l.decls (some_has l.sets.items) (begins (start_parts l.decls (take l.start-index l.starts)))
