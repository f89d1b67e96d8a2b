use Rattle.std.proofs.Common.{◌≡◌, ◌-◌, ◌/◌, ◌%◌, ◌^◌, length, take}
use Rattle.wn_net.specs.Value.{Given}
use Rattle.wn_net.specs.Net.{AreNodesOf, value_at}
use Rattle.wn_net.specs.Changes.{AddsNodes}
use Rattle.wn_mem.specs.Words.{numbers_of, number_of}
use Rattle.wn_mem.proofs.bits.address_bits.Given as goal

abbrev pub invariant-loop-index : goal.invariant-loop-index
invariant-loop-index l = record {
  adds : AddsNodes l.fn.net l.net;
  long : length l.bits ≡ l.count;
  nodes : AreNodesOf l.net 1 (take l.index l.bits);
  value : (g : Given) → number_of (numbers_of l.net g (take l.index l.bits))
      ≡ value_at l.fn.net g l.addr / 2 ^ (l.count - l.index) % 2 ^ l.index;
}
