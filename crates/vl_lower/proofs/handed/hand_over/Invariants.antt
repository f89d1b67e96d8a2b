use Rattle.std.specs.Prelude.{◌≡◌, ◌++◌, take}
use Rattle.vl_lower.proofs.handed.hand_over.Given as goal

abbrev pub invariant-loop-node : goal.invariant-loop-node
invariant-loop-node l = l.nodes ≡ l.fn.nodes ++ take l.node-index l.node-items
