use Rattle.std.proofs.Common.{sym, ◌∙◌, ap, subst, take, length, ◌∷◌, ◌<◌}
use Rattle.std.proofs.lemmas.List.{take_rest}
use Rattle.fv_lines.specs.Words.{lines, stops, behind_end}
use Rattle.fv_lines.proofs.Glue.{line_more, line_ends}
use Rattle.fv_lines.proofs.lines.next_line.Goals as goal

pub loop-end-preserved : goal.loop-end-preserved
loop-end-preserved c = line_more c.args.bytes.now c.loop-end.end c.loop-end.invariant.0 c.loop-end.invariant.1
    (ap stops (sym (take_rest c.args.bytes.now c.loop-end.end)) ∙ sym c.loop-end-test.ensures)

pub returns-clause-lines : goal.returns-clause-lines
returns-clause-lines c =
    (line_ends c.args.bytes.now c.loop-end.end c.requires c.loop-end.invariant.0 c.loop-end.invariant.1
    (ap stops (sym (take_rest c.args.bytes.now c.loop-end.end)) ∙ sym c.loop-end-test.ensures)).0
    ∙ ap (λ x. take c.loop-end.end c.args.bytes.now ∷ lines x)
    (sym (c.behind_end.ensures ∙ ap behind_end (take_rest c.args.bytes.now c.loop-end.end)))

pub returns-clause-shorter : goal.returns-clause-shorter
returns-clause-shorter c =
    subst (λ x. length x < length c.args.bytes.now)
    (sym (c.behind_end.ensures ∙ ap behind_end (take_rest c.args.bytes.now c.loop-end.end)))
    (line_ends c.args.bytes.now c.loop-end.end c.requires c.loop-end.invariant.0 c.loop-end.invariant.1
    (ap stops (sym (take_rest c.args.bytes.now c.loop-end.end)) ∙ sym c.loop-end-test.ensures)).1
