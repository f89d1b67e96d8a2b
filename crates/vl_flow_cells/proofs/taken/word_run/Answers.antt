use Rattle.std.proofs.Common.{◌+◌, ap, sym, ◌∙◌, subst}
use Rattle.fv_bits.specs.Bits.{as_int}
use Rattle.vl_tree.specs.ExprView.{selects}
use Rattle.vl_flow_cells.specs.Places.{IsMaskOf}
use Rattle.vl_flow_cells.proofs.FixedSelects.{bit_fixed}
use Rattle.vl_flow_cells.proofs.Lists.{declared_own}
use Rattle.vl_flow_cells.proofs.Sizes.{word_sized}
use Rattle.vl_flow_cells.proofs.Taking.{takes_word, takes_no_word}
use Rattle.vl_flow_cells.proofs.taken.word_run.Goals as goal

pub returns-in-None : goal.returns-in-None
returns-in-None c ds p begins sized fix =
    let d = c.args.decl.now in
    let e = c.args.index.now in
    let xs = selects c.args.others.now in
    let x = as_int c.constant.result.width c.constant.result.signed c.constant.result.number in
    let own = declared_own ds begins.different begins.place d begins.at in
    takes_no_word ds d.name d own begins.different begins.apart begins.kept begins.place begins.at p e xs fix
    c.args.words c.requires.words x (c.constant.ensures (bit_fixed ds p e xs fix).0 ds)
    (c.word_place.ensures.none c.in-None.is)

pub returns-in-Some : goal.returns-in-Some
returns-in-Some c ds p begins sized fix =
    let d = c.args.decl.now in
    let e = c.args.index.now in
    let xs = selects c.args.others.now in
    let r = c.one_cell.result in
    let k = c.in-Some.word in
    let x = as_int c.constant.result.width c.constant.result.signed c.constant.result.number in
    let own = declared_own ds begins.different begins.place d begins.at in
    let found = c.in-Some.ensures.some in
    let fixed = bit_fixed ds p e xs fix in
    takes_word ds d.name d own begins.different begins.apart begins.kept begins.place begins.at p e xs fix
    c.args.words c.requires.words x (c.constant.ensures fixed.0 ds) found.0 k found.1 found.2 r.first r.past r.mask
    (c.one_cell.ensures.first ∙ ap (λ n. n + k) begins.number)
    (c.one_cell.ensures.past ∙ ap (λ n. n + 1) (sym c.one_cell.ensures.first))
    (subst (IsMaskOf ds d xs) (sym c.one_cell.ensures.mask)
    (c.vector_mask.ensures ds (word_sized ds d.name p e xs d c.args.words own c.requires.words sized) fixed.1))
