use Rattle.std.proofs.Common.{◌≡◌, length}
use Rattle.wn_opt.specs.Rebuilt.{AreNarrowed}
use Rattle.wn_opt.proofs.narrow.narrow_nodes.Given as goal

abbrev pub invariant-loop-node : goal.invariant-loop-node
invariant-loop-node l = record {
  narrowed : AreNarrowed l.net l.marks l.part l.inputs.items l.places.items;
  each : length l.places.items ≡ l.node-index;
}
