use Rattle.std.proofs.Common.{◌∙◌, ◌&&◌, ap, sym}
use Rattle.fv_bit_sets.specs.Cells.{has}
use Rattle.vl_flow_effects.specs.Assigning.{set_of}
use Rattle.vl_flow_check.proofs.rows.row_of.Goals as goal

pub returns-then-counts : goal.returns-then-counts
returns-then-counts c x i =
    c.in_ok-names_by.ensures x i
    ∙ ap (λ b. b && has (set_of c.args.assigned.now c.args.kind) x i) (sym c.if-counts.true)

pub returns : goal.returns
returns c x i =
    c.none.ensures x i ∙ ap (λ b. b && has (set_of c.args.assigned.now c.args.kind) x i) (sym c.if-counts.false)
