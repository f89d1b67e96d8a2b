use Rattle.std.specs.Prelude.{◌≡◌, ℕ, ◌+◌, ◌*◌, ◌/◌, ◌%◌, ◌<◌, ◌==◌, ◌&&◌}
use Rattle.fv_bits.specs.Bits.{bit}
use Rattle.wn_net.specs.Value.{Given}
use Rattle.wn_net.specs.Net.{IsNodeOf, AreNodesOf, width_at, value_at}
use Rattle.wn_net.specs.Given.{IsGiven}
use Rattle.wn_net.specs.Changes.{AddsNodes}
use Rattle.wn_mem.specs.Words.{IsRequest, ShareWrite, Tell, numbers_of}
use Rattle.wn_mem.proofs.After.{so_far}
use Rattle.wn_mem.proofs.groups.write_groups.Given as goal

abbrev pub invariant-loop-index : goal.invariant-loop-index
invariant-loop-index l = record {
  adds : AddsNodes l.fn.net l.net;
  asked : IsRequest l.net l.group l.asked;
  there : AreNodesOf l.net (width_at l.fn.net l.shared.written) l.words;
  test_there : IsNodeOf l.net 1 l.acts;
  test : (g : Given) → IsGiven l.fn.net g → (l.index % 16 ≡ 0 → ⊥)
      → value_at l.net g l.acts
      ≡ bit (value_at l.fn.net g l.group.enable == 1 && value_at l.fn.net g l.group.addr == l.index / 16);
  value : (g : Given) (mask number place : ℕ) → IsGiven l.fn.net g
      → ShareWrite l.fn.net g (width_at l.fn.net l.shared.written) mask number l.shared.written l.shared.kept
      → place < 16 → Tell l.fn.net g l.marks place
      → numbers_of l.net g l.words
      ≡ so_far (width_at l.fn.net l.shared.written) (numbers_of l.fn.net g l.fn.words)
      (value_at l.fn.net g l.group.enable) (value_at l.fn.net g l.group.addr * 16 + place) mask number l.index;
}
