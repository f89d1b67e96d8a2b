use Rattle.std.specs.Prelude.{take}
use Rattle.wn_net.specs.Changes.{AddsNodes}
use Rattle.vl_lower_state.specs.Nexts.{ShowBits}
use Rattle.vl_lower_state.proofs.nexts.gather_all.Given as goal

abbrev pub invariant-loop-at : goal.invariant-loop-at
invariant-loop-at l = record {
  adds : AddsNodes l.fn.net l.net;
  shows : ShowBits l.fn.net l.net l.cells (take l.at l.spots) (take l.at l.places) l.nodes;
}
