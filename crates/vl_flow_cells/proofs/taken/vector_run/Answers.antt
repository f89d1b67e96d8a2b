use Rattle.std.proofs.Common.{◌+◌, ap, sym, ◌∙◌, subst}
use Rattle.vl_tree.specs.ExprView.{selects}
use Rattle.vl_flow_cells.specs.Places.{IsMaskOf}
use Rattle.vl_flow_cells.proofs.Lists.{declared_own}
use Rattle.vl_flow_cells.proofs.Sizes.{vector_sized}
use Rattle.vl_flow_cells.proofs.Taking.{takes_vector}
use Rattle.vl_flow_cells.proofs.taken.vector_run.Goals as goal

pub returns : goal.returns
returns c ds begins sized fix =
    let d = c.args.decl.now in
    let xs = selects c.args.all.now in
    let r = c.one_cell.result in
    let own = declared_own ds begins.different begins.place d begins.at in
    takes_vector ds d.name d own begins.different begins.apart begins.kept begins.place begins.at xs fix
    c.requires.vector r.first r.past r.mask (c.one_cell.ensures.first ∙ begins.number)
    (c.one_cell.ensures.past ∙ ap (λ n. n + 1) (sym c.one_cell.ensures.first))
    (subst (IsMaskOf ds d xs) (sym c.one_cell.ensures.mask)
    (c.vector_mask.ensures ds (vector_sized ds d.name xs d own c.requires.vector sized) fix))
