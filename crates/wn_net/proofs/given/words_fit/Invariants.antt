use Rattle.std.proofs.Common.{◌<◌, ◌^◌, ℕ}
use Rattle.wn_net.specs.Value.{word_at}
use Rattle.wn_net.proofs.given.words_fit.Given as goal

abbrev pub invariant-loop-word : goal.invariant-loop-word
invariant-loop-word l = (k : ℕ) → k < l.word-index → word_at l.words k < 2 ^ l.mem.width
