use Rattle.std.proofs.Common.{◌≡◌, ◌∙◌, ◌+◌, [], ◌∷◌, ap, sym, arith}
use Rattle.std.specs.Prelude.{drop}
use Rattle.std.proofs.lemmas.Grind.{common_steps}
use Rattle.vl_elab_params.specs.Shadows.{with_shadows}
use Rattle.vl_elab_params.proofs.shadow_names.add_genvars.Goals as goal

pub loop-text-preserved : goal.loop-text-preserved
loop-text-preserved c =
    let names = c.args.names.now in
    let around = c.args.around.now in
    let rest = drop (c.loop-text.text-index + 1) c.args.all.now in
    let front : drop c.loop-text.text-index c.args.all.now ≡ c.text-item.result
    ∷ drop (c.loop-text.text-index + 1) c.args.all.now = grind (arith, common_steps) in
    ap (λ l. with_shadows names around l rest) c.in_ok-add_shadow.ensures
    ∙ ap (λ xs. with_shadows names around c.loop-text.level xs) (sym front) ∙ c.loop-text.invariant

pub returns : goal.returns
returns c =
    let names = c.args.names.now in
    let around = c.args.around.now in
    let gone : drop c.loop-text.text-index c.args.all.now ≡ [] = grind (arith, common_steps) in
    ap (λ xs. with_shadows names around c.loop-text.level xs) (sym gone) ∙ c.loop-text.invariant
