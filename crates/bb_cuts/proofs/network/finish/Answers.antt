use Rattle.std.specs.Prelude.{◌≡◌, Option, List, ℕ, [], ◌∷◌, ◌++◌, length, pos, IfSome, refl}
use Rattle.std.proofs.Common.{ap, subst, ◌∙◌}
use Rattle.bb_cuts.specs.Variables.{AreSameWords}
use Rattle.bb_cuts.proofs.Telling.{tells_cuts}
use Rattle.bb_cuts.proofs.network.finish.Goals as goal

pub returns : goal.returns
returns c = λ graph g told.
    let nodes = c.args.nodes.now in
    let var = length nodes in
    let P : Option (List (List ℕ)) → Type 0 = λ o. IfSome o (λ made. AreSameWords nodes made c.args.watch.now) in
    let words = subst P c.in-Some-2.is c.in_ok-words.ensures in
    let count : c.args.formula.vars ≡ length nodes = cc (c.vars.ensures.value, c.if-var-vars.false) in
    tells_cuts graph nodes c.args.formula.clauses var c.in-Some.own c.args.root c.args.watch.now c.in-Some-2.words
    c.push_true.new.formula told c.in-Some.ensures words refl
    (c.in_ok-push_true.ensures.vars ∙ c.in_ok-push_and.ensures.vars ∙ count)
    (c.in_ok-push_true.ensures.clauses
    ∙ ap (λ cs. cs ++ (pos var ∷ []) ∷ []) c.in_ok-push_and.ensures.clauses)
