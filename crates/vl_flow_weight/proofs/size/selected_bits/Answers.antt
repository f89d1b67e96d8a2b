use Rattle.vl_tree.specs.ExprView.{selects}
use Rattle.vl_size.specs.Size.{vector_size, word_size}
use Rattle.vl_size.proofs.Names.{of_memory, of_vector, three_selects, two_selects}
use Rattle.vl_flow_weight.proofs.size.selected_bits.Goals as goal

pub returns-in-len2-up : goal.returns-in-len2-up
returns-in-len2-up c =
    let ds = c.args.decls.now in
    let d = c.args.decl.now in
    let ss = c.args.all.now in
    of_vector d.words c.is_none.result (vector_size ds d (selects ss)) (word_size ds d (selects ss)) c.is_none.ensures
    c.if-is_none.true (two_selects ds d ss c.in-len2-up.len_at_least)

pub returns-in_default-4 : goal.returns-in_default-4
returns-in_default-4 c =
    let ds = c.args.decls.now in
    let d = c.args.decl.now in
    let ss = c.args.all.now in
    of_memory d.words c.is_none.result (vector_size ds d (selects ss)) (word_size ds d (selects ss)) c.is_none.ensures
    c.if-is_none.false (three_selects ds d ss c.in_default.len_at_least)
