use Rattle.std.proofs.Common.{take}
use Rattle.vl_flow_order.specs.Named.{AreMarks}
use Rattle.vl_flow_order.proofs.names.named.Given as goal

abbrev pub invariant-loop-visit : goal.invariant-loop-visit
invariant-loop-visit l = AreMarks (take l.visit-index l.all) l.marks.items
