use Rattle.std.specs.Prelude.{◌≡◌, ℕ, ◌<◌, slice_index}
use Rattle.wn_net.specs.Value.{Given, word_at, words_of}
use Rattle.wn_net.specs.Net.{value_at}
use Rattle.wn_mem.proofs.whole.are_words_of.Given as goal

abbrev pub invariant-loop-number : goal.invariant-loop-number
invariant-loop-number l =
    (k : ℕ) → k < l.number → (g : Given) → value_at l.net g (slice_index l.words k) ≡ word_at (words_of g l.mem) k
