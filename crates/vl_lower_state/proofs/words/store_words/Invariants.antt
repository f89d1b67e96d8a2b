use Rattle.wn_net.specs.Changes.{Keeps}
use Rattle.vl_lower_state.specs.Stores.{AddsWrites, IsConstant}
use Rattle.vl_lower_state.proofs.StoresTogether.{AreLeft, AreStoredTo}
use Rattle.vl_lower_state.proofs.words.store_words.Given as goal

abbrev pub invariant-loop-at : goal.invariant-loop-at
invariant-loop-at l = record {
  keeps : Keeps l.fn.net l.net;
  adds : AddsWrites l.fn.net l.net;
  always : IsConstant l.net 1 1 l.always;
  stored : AreStoredTo l.net l.cells l.tracks l.at l.net.mems l.firsts;
  left : AreLeft l.fn.net.mems l.net.mems l.at;
}
