use Rattle.std.proofs.Common.{◌≡◌, length}
use Rattle.wn_opt.specs.Rebuilt.{AreShared}
use Rattle.wn_opt.proofs.share.share_nodes.Given as goal

abbrev pub invariant-loop-node : goal.invariant-loop-node
invariant-loop-node l = record {
  shared : AreShared l.net l.marks l.hashed l.places.items;
  each : length l.places.items ≡ l.node-index;
}
