use Rattle.std.proofs.Common.{◌≡◌, ℕ}
use Rattle.wn_net.specs.Value.{Given}
use Rattle.wn_net.specs.Net.{AreNodesOf, width_at, value_at}
use Rattle.wn_net.specs.Given.{IsGiven}
use Rattle.wn_net.specs.Changes.{AddsNodes}
use Rattle.wn_mem.specs.Words.{IsRequest, ShareWrite, numbers_of}
use Rattle.wn_mem.proofs.After.{so_far}
use Rattle.wn_mem.proofs.write.write_singly.Given as goal

abbrev pub invariant-loop-index : goal.invariant-loop-index
invariant-loop-index l = record {
  adds : AddsNodes l.fn.net l.net;
  asked : IsRequest l.net l.write l.asked;
  there : AreNodesOf l.net (width_at l.fn.net l.shared.written) l.words;
  value : (g : Given) (mask number : ℕ) → IsGiven l.fn.net g
      → ShareWrite l.fn.net g (width_at l.fn.net l.shared.written) mask number l.shared.written l.shared.kept
      → numbers_of l.net g l.words
      ≡ so_far (width_at l.fn.net l.shared.written) (numbers_of l.fn.net g l.fn.words)
      (value_at l.fn.net g l.write.enable) (value_at l.fn.net g l.write.addr) mask number l.index;
}
