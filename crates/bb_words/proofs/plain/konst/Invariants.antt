use Rattle.fv_text.specs.Word.{number}
use Rattle.bb_words.proofs.Numbers.{Taking}
use Rattle.bb_words.proofs.plain.konst.Given as goal

abbrev pub invariant-loop-index : goal.invariant-loop-index
invariant-loop-index l = Taking l.gates (number l.word) l.index l.left l.made.items
