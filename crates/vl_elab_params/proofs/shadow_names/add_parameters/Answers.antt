use Rattle.std.proofs.Common.{◌≡◌, ◌∙◌, ◌+◌, [], ◌∷◌, ap, sym, arith}
use Rattle.std.specs.Prelude.{drop}
use Rattle.std.proofs.lemmas.Grind.{common_steps}
use Rattle.std.specs.Prelude.{map}
use Rattle.vl_elab_params.specs.Shadows.{with_shadows}
use Rattle.vl_elab_params.proofs.shadow_names.add_parameters.Goals as goal

pub loop-parameter-preserved : goal.loop-parameter-preserved
loop-parameter-preserved c =
    let names = c.args.names.now in
    let around = c.args.around.now in
    let rest = drop (c.loop-parameter.parameter-index + 1) c.args.all.now in
    let front : drop c.loop-parameter.parameter-index c.args.all.now ≡ c.parameter-item.result
    ∷ drop (c.loop-parameter.parameter-index + 1) c.args.all.now = grind (arith, common_steps) in
    ap (λ l. with_shadows names around l (map (λ x. x.name) rest)) c.in_ok-add_shadow.ensures
    ∙ ap (λ xs. with_shadows names around c.loop-parameter.level (map (λ x. x.name) xs)) (sym front) ∙ c.loop-parameter.invariant

pub returns : goal.returns
returns c =
    let names = c.args.names.now in
    let around = c.args.around.now in
    let gone : drop c.loop-parameter.parameter-index c.args.all.now ≡ [] = grind (arith, common_steps) in
    ap (λ xs. with_shadows names around c.loop-parameter.level (map (λ x. x.name) xs)) (sym gone) ∙ c.loop-parameter.invariant
