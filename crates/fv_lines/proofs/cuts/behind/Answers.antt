use Rattle.std.proofs.Common.{◌∙◌}
use Rattle.fv_lines.proofs.Parts.{front_of, is_same}
use Rattle.fv_lines.proofs.cuts.behind.Goals as goal

pub returns-else-eq : goal.returns-else-eq
returns-else-eq c = λ rest e. is_same c.split_at.result.0.now c.args.front.now c.eq.result c.eq.ensures c.if-eq.false
    (c.split_at.ensures.front ∙ front_of c.args.bytes.now c.args.front.now rest e)
