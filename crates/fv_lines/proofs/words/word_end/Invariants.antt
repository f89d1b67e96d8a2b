use Rattle.std.proofs.Common.{◌≡◌, ◌-◌, ◌<◌, true, length, take, drop}
use Rattle.fv_lines.specs.Words.{words, begins_word}
use Rattle.fv_lines.proofs.Glue.{glue}
use Rattle.fv_lines.proofs.words.word_end.Given as goal

abbrev pub invariant-loop-last : goal.invariant-loop-last
invariant-loop-last l = record {
  within : l.last < length l.bytes;
  words_are : words l.bytes ≡ glue (take l.last l.bytes) (words (drop l.last l.bytes));
  begins : begins_word (drop l.last l.bytes) ≡ true;
}

abbrev pub decreases-loop-last : goal.decreases-loop-last
decreases-loop-last l = length l.bytes - l.last
