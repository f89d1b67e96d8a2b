use Rattle.std.proofs.Common.{sym, ap, ◌∙◌}
use Rattle.std.proofs.lemmas.List.{take_rest}
use Rattle.fv_lines.specs.Words.{begins_blank}
use Rattle.fv_lines.proofs.Glue.{blank_more}
use Rattle.fv_lines.proofs.words.next_word.Goals as goal

pub loop-start-preserved : goal.loop-start-preserved
loop-start-preserved c = blank_more c.args.line.now c.loop-start.start c.loop-start.invariant.1
    (ap begins_blank (sym (take_rest c.args.line.now c.loop-start.start)) ∙ sym c.loop-start-test.ensures)
