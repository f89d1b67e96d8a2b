use Rattle.std.specs.Prelude.{find}
use Rattle.std.proofs.Common.{◌∙◌}
use Rattle.rv_zb.specs.Rows.{zb_matches}
use Rattle.rv_zb.proofs.Unique.{row_only}
use Rattle.rv_zb.proofs.matching.zb_row_of.Goals as goal

pub returns-clause-only : goal.returns-clause-only
returns-clause-only c =
    row_only c.args.insn c.row_among.result
    (c.row_among.ensures ∙ (λ i. find (λ row. zb_matches row c.args.insn) (c.all.ensures i)))
