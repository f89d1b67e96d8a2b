use Rattle.std.proofs.Common.{rules, ◌≡◌, ◌+◌, ap, sym, ◌∙◌, length, false}
use Rattle.vl_tree.specs.ExprView.{selects}
use Rattle.vl_size.specs.Size.{word_size}
use Rattle.vl_mean.specs.Cells.{cells}
use Rattle.vl_flow_cells.proofs.Lists.{declared_own}
use Rattle.vl_flow_cells.proofs.Masks.{no_selects}
use Rattle.vl_flow_cells.proofs.Sizes.{none_sized, words_sized}
use Rattle.vl_flow_cells.proofs.Taking.{takes_all}
use Rattle.vl_flow_cells.proofs.taken.taken_of.Goals as goal

pub returns-then-not-are_fixed : goal.returns-then-not-are_fixed
returns-then-not-are_fixed c ds begins sized =
    let d = c.args.decl.now in
    let xs = selects c.args.all.now in
    let r = c.whole_name.result in
    let own = declared_own ds begins.different begins.place d begins.at in
    let off : c.are_fixed.result ≡ false = search rules in
    takes_all ds d.name d own begins.different begins.apart begins.kept begins.place begins.at xs
    (sym (c.are_fixed.ensures ds) ∙ off) r.first r.past r.mask (c.whole_name.ensures.first ∙ begins.number)
    (c.whole_name.ensures.past ∙ ap (λ n. n + length (cells d)) (sym c.whole_name.ensures.first))
    c.whole_name.ensures.mask

pub returns-in-empty : goal.returns-in-empty
returns-in-empty c ds begins sized =
    let d = c.args.decl.now in
    let xs = selects c.args.all.now in
    let own = declared_own ds begins.different begins.place d begins.at in
    absurd (none_sized (word_size ds d xs) (ap (word_size ds d) (no_selects c.args.all.now c.in-empty.len_below))
    (words_sized ds d.name xs d c.in-Some.words own c.in-Some.is sized))
