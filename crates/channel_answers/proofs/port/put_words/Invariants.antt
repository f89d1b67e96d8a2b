use Rattle.channel_answers.specs.Listed.{AreListed}
use Rattle.channel_answers.proofs.port.put_words.Given as goal

abbrev pub invariant-loop-word : goal.invariant-loop-word
invariant-loop-word l = record {
  listed : AreListed l.net l.list;
  next : (goal.iterator-loop-word).can_next l.word-iterator;
  finite : (goal.iterator-loop-word).is_finite l.word-iterator;
}
