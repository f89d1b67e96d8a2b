use Rattle.std.proofs.Common.{ap, sym, ◌∙◌, subst, true≢false}
use Rattle.std.specs.Prelude.{IsSome}
use Rattle.fv_bit_sets.specs.Cells.{is_set}
use Rattle.vl_size.proofs.Names.{two_selects}
use Rattle.vl_flow_cells.specs.Places.{IsMaskOf}
use Rattle.vl_flow_cells.proofs.Masks.{mask_of_all, no_selects}
use Rattle.vl_flow_cells.proofs.mask.vector_mask.Goals as goal

pub returns-in-empty : goal.returns-in-empty
returns-in-empty c ds sized fix =
    let d = c.args.decl.now in
    subst (λ xs. IsMaskOf ds d xs c.ones.result) (sym (no_selects c.args.all.now c.in-empty.len_below))
    (λ n k. ap (λ z. is_set z k) c.ones.ensures.value ∙ mask_of_all ds d n k)

pub returns-in-len2-up : goal.returns-in-len2-up
returns-in-len2-up c ds sized fix =
    absurd (true≢false (sym (subst IsSome (two_selects ds c.args.decl.now c.args.all.now c.in-len2-up.len_at_least)
    sized)))
