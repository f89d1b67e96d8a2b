use Rattle.std.proofs.Common.{◌≡◌, ◌+◌, true, false, drop, sym, ap, ◌∙◌}
use Rattle.std.proofs.lemmas.List.{take_rest}
use Rattle.fv_lines.specs.Words.{begins_word}
use Rattle.fv_lines.proofs.Glue.{word_more, word_ends}
use Rattle.fv_lines.proofs.words.word_end.Goals as goal

pub loop-last-preserved : goal.loop-last-preserved
loop-last-preserved c =
    let k : begins_word (drop (c.loop-last.last + 1) c.args.bytes.now)
    ≡ true = ap begins_word (sym (take_rest c.args.bytes.now (c.loop-last.last + 1)))
    ∙ sym c.loop-last-test.ensures in
    let m = word_more c.args.bytes.now c.loop-last.last c.loop-last.invariant.within c.loop-last.invariant.words_are
    c.loop-last.invariant.begins k in
    record { within = m.0; words_are = m.1; begins = k }

pub returns-clause-words : goal.returns-clause-words
returns-clause-words c =
    let k : begins_word (drop (c.loop-last.last + 1) c.args.bytes.now)
    ≡ false = ap begins_word (sym (take_rest c.args.bytes.now (c.loop-last.last + 1)))
    ∙ sym c.loop-last-test.ensures in
    word_ends c.args.bytes.now c.loop-last.last c.loop-last.invariant.within c.loop-last.invariant.words_are
    c.loop-last.invariant.begins k
