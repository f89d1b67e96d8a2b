use Rattle.std.proofs.Common.{◌∙◌, ◌*◌, ap}
use Rattle.vl_tree.specs.ExprView.{selects}
use Rattle.vl_mean.specs.ConstantFaults.{capped}
use Rattle.vl_flow_weight.proofs.Accesses.{memory_access, vector_access}
use Rattle.vl_flow_weight.proofs.access.declared_access.Goals as goal

pub returns-then-is_none : goal.returns-then-is_none
returns-then-is_none c ds =
    vector_access ds c.args.decl.now (selects c.args.all.now) c.select_weight.result c.is_none.result
    c.is_none.ensures c.if-is_none.true (c.select_weight.ensures ds)

pub returns : goal.returns
returns c ds =
    let d = c.args.decl.now in
    memory_access ds d (selects c.args.all.now) c.bit_count-words.result c.behind_word.result c.plus.result
    c.is_none.result c.is_none.ensures c.if-is_none.false
    (c.bit_count-words.ensures ∙ ap (λ n. capped (n * d.width)) c.word_count.ensures) (c.behind_word.ensures ds)
    c.plus.ensures
