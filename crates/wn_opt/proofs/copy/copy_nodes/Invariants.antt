use Rattle.std.proofs.Common.{◌≡◌, length}
use Rattle.wn_opt.specs.Cone.{KeepsPlaces}
use Rattle.wn_opt.specs.Parts.{AddsBehind, AreCopiedTo}
use Rattle.wn_opt.proofs.copy.copy_nodes.Given as goal

abbrev pub invariant-loop-index : goal.invariant-loop-index
invariant-loop-index l = record {
  adds : AddsBehind l.initial.part l.part;
  copied : AreCopiedTo l.net l.marks l.part l.places.items l.index;
  all : length l.places.items ≡ length l.net.nodes;
  kept : KeepsPlaces l.initial.places.items l.places.items;
}
