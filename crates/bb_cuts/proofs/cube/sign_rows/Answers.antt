use Rattle.std.proofs.Common.{ap, sym, ◌∙◌}
use Rattle.bb_cuts.specs.Rows.{has_row, sign_holds}
use Rattle.bb_cuts.proofs.RowLaws.{full}
use Rattle.bb_cuts.proofs.cube.sign_rows.Goals as goal

pub returns-in-Absent : goal.returns-in-Absent
returns-in-Absent c = λ r below.
    full r below ∙ ap (λ sign. sign_holds sign (has_row c.args.leaf r)) (sym c.in-Absent.is)
