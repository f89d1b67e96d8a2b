use Rattle.std.proofs.Common.{◌≡◌, []}
use Rattle.std.proofs.lemmas.Result.{IfOk-weaker}
use Rattle.vl_tree.specs.ExprView.{selects, with_select}
use Rattle.vl_size.specs.Size.{word_size}
use Rattle.vl_mean_flat.specs.FullNames.{flat_selects}
use Rattle.vl_elab_emit.specs.Starts.{selected_bits}
use Rattle.vl_elab_emit.proofs.Several.{memory_selected, memory_whole}
use Rattle.vl_elab_emit.proofs.bits.selected_bits.Goals as goal

pub returns-in-None : goal.returns-in-None
returns-in-None c =
    memory_whole c.args.scopes.now c.args.decl.now c.args.all.now c.if-is_none.ensures c.in-None.ensures.cases

pub returns-in-Some : goal.returns-in-Some
returns-in-Some c =
    IfOk-weaker c.first_bits.result
    (λ o. o ≡ word_size [] c.args.decl.now (flat_selects c.args.scopes.now
    (with_select c.in-Some.first.now (selects c.in-Some.rest.now))))
    (λ o. o ≡ selected_bits c.args.decl.now (flat_selects c.args.scopes.now (selects c.args.all.now)))
    (λ o h. memory_selected c.args.scopes.now c.args.decl.now c.args.all.now c.in-Some.rest.now c.in-Some.first.now o
    c.if-is_none.ensures c.in-Some.ensures.cases.0 h) c.first_bits.ensures
