use Rattle.std.proofs.Common.{◌≡◌, ◌<◌, ◌==◌, ◌^◌, ℕ, length, take}
use Rattle.std.specs.Prelude.{slice_index}
use Rattle.fv_bits.specs.Bits.{bit, low}
use Rattle.wn_net.specs.Value.{Given}
use Rattle.wn_net.specs.Net.{IsNodeOf, AreNodesOf, value_at}
use Rattle.wn_net.specs.Changes.{AddsNodes}
use Rattle.wn_mem.proofs.marks.mark_nodes.Given as goal

abbrev pub invariant-loop-index : goal.invariant-loop-index
invariant-loop-index l = record {
  adds : AddsNodes l.fn.net l.net;
  long : length l.marks ≡ 16;
  shifted : IsNodeOf l.net 16 l.shifted;
  one : (g : Given) → value_at l.net g l.shifted ≡ 2 ^ low 4 (value_at l.fn.net g l.addr);
  nodes : AreNodesOf l.net 1 (take l.index l.marks);
  told : (g : Given) (i : ℕ) → i < l.index
      → value_at l.net g (slice_index l.marks i) ≡ bit (low 4 (value_at l.fn.net g l.addr) == i);
}
