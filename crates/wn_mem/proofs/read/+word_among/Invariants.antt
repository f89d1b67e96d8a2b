use Rattle.std.proofs.Common.{length}
use Rattle.wn_mem.proofs.read.+word_among.Given as goal

abbrev pub decreases-word_among : goal.decreases-word_among
decreases-word_among l = length l.bits.now
