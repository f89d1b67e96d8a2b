use Rattle.std.proofs.Common.{length}
use Rattle.wn_mem.proofs.marks.+marked_word.Given as goal

abbrev pub decreases-marked_word : goal.decreases-marked_word
decreases-marked_word l = length l.words.now
