use Rattle.std.specs.Prelude.{◌≡◌, take}
use Rattle.wn_net.specs.Changes.{Keeps}
use Rattle.vl_lower_state.specs.Stores.{AddsWrites}
use Rattle.vl_lower_state.specs.Writing.{with_writes}
use Rattle.vl_lower_state.proofs.words.store_kept.Given as goal

abbrev pub invariant-loop-write : goal.invariant-loop-write
invariant-loop-write l = record {
  keeps : Keeps l.fn.net l.net;
  adds : AddsWrites l.fn.net l.net;
  others : l.net.mems ≡ with_writes l.mem (take l.write-index l.writes) l.fn.net.mems;
}
