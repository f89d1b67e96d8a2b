use Rattle.std.proofs.Common.{◌≡◌, ◌∙◌, ◌+◌, [], ◌∷◌, ap, sym, arith}
use Rattle.std.specs.Prelude.{drop}
use Rattle.std.proofs.lemmas.Grind.{common_steps}
use Rattle.std.specs.Prelude.{map}
use Rattle.vl_elab_params.specs.Entered.{with_later}
use Rattle.vl_elab_params.proofs.behind.add_declared.Goals as goal

pub loop-name-preserved : goal.loop-name-preserved
loop-name-preserved c =
    let front : drop c.loop-name.name-index c.args.all.now ≡ c.name-item.result
    ∷ drop (c.loop-name.name-index + 1) c.args.all.now = grind (arith, common_steps) in
    ap (λ l. with_later l (map (λ x. x.name) (drop (c.loop-name.name-index + 1) c.args.all.now)))
    c.in_ok-add_later.ensures
    ∙ ap (λ xs. with_later c.loop-name.level (map (λ x. x.name) xs)) (sym front) ∙ c.loop-name.invariant

pub returns : goal.returns
returns c =
    let gone : drop c.loop-name.name-index c.args.all.now ≡ [] = grind (arith, common_steps) in
    ap (λ xs. with_later c.loop-name.level (map (λ x. x.name) xs)) (sym gone) ∙ c.loop-name.invariant
