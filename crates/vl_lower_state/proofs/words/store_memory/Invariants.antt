use Rattle.std.specs.Prelude.{◌≡◌, take, drop}
use Rattle.fv_bits.specs.Bits.{ones}
use Rattle.wn_net.specs.Changes.{Keeps}
use Rattle.vl_lower_state.specs.Stores.{AddsWrites, IsConstant, PutNodes}
use Rattle.vl_lower_state.specs.Writing.{with_writes, writes_at}
use Rattle.vl_lower_state.proofs.words.store_memory.Given as goal

abbrev pub invariant-loop-word : goal.invariant-loop-word
invariant-loop-word l = record {
  keeps : Keeps l.fn.net l.net;
  adds : AddsWrites l.fn.net l.net;
  mask : IsConstant l.net l.width (ones l.width) l.mask;
  others : l.net.mems ≡ with_writes l.mem (writes_at l.net.mems l.mem) l.fn.net.mems;
  stored : PutNodes l.net l.width 0 (writes_at l.net.mems l.mem) (take l.word (drop l.first l.cells));
}
