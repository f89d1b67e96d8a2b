use Rattle.std.proofs.Common.{◌∙◌}
use Rattle.fv_lines.proofs.Parts.{end_of, is_same}
use Rattle.fv_lines.proofs.cuts.before.Goals as goal

pub returns-else-eq : goal.returns-else-eq
returns-else-eq c = λ start e. is_same c.split_at.result.1.now c.args.end.now c.eq.result c.eq.ensures c.if-eq.false
    (c.split_at.ensures.back ∙ end_of c.args.bytes.now start c.args.end.now e)
