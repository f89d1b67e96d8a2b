use Rattle.std.proofs.Common.{◌∙◌, ap, sym, ◌&&◌}
use Rattle.std.specs.Prelude.{nat_lt}
use Rattle.fv_bit_sets.proofs.Masks.{set_zero}
use Rattle.fv_bit_sets.specs.Cells.{is_set}
use Rattle.vl_flow_cells.proofs.Masks.{all_set}
use Rattle.vl_flow_check.proofs.layout.mask_of.Goals as goal

pub returns-then-counts : goal.returns-then-counts
returns-then-counts c i =
    ap (λ m. is_set m i) c.ones.ensures.value ∙ all_set c.args.decl.now.width i
    ∙ ap (λ b. b && nat_lt i c.args.decl.now.width) (sym c.if-counts.true)

pub returns : goal.returns
returns c i =
    set_zero i ∙ ap (λ b. b && nat_lt i c.args.decl.now.width) (sym c.if-counts.false)
