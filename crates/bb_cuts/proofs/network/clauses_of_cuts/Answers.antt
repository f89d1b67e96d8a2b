use Rattle.std.specs.Prelude.{List, ℕ}
use Rattle.std.proofs.Common.{sym, subst}
use Rattle.std.proofs.lemmas.Option.{IfSome_then}
use Rattle.std.proofs.lemmas.Result.{IfOk-weaker}
use Rattle.bb_cuts.specs.Variables.{AreTold}
use Rattle.bb_cuts.proofs.Standing.{told_first}
use Rattle.bb_cuts.proofs.network.clauses_of_cuts.Goals as goal

pub returns : goal.returns
returns c =
    let graph = c.args.aig.now in
    let whole = c.len-3.ensures.whole in
    let first = told_first graph c.in_ok-nodes.nodes.items c.new-formula.result.clauses c.inputs-inputs.result whole
    c.requires c.inputs-inputs.ensures c.in_ok-nodes.ensures.count c.in_ok-nodes.ensures.each
    c.new-formula.ensures.clauses in
    let all = c.in_ok-done.ensures.told c.if-not-done.false first in
    let N : List ℕ → Type 0 = λ ns. AreTold graph ns c.add_cells.new.formula.clauses in
    let told = subst N (sym c.as_slice.ensures.value) all in
    IfOk-weaker c.finish.result _ _ (λ o h. IfSome_then o h (λ made say. say graph whole told)) c.finish.ensures
