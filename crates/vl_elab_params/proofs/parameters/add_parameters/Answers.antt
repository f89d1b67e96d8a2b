use Rattle.std.proofs.Common.{◌≡◌, ◌∙◌, ◌+◌, [], ◌∷◌, ap, sym, arith}
use Rattle.std.specs.Prelude.{drop}
use Rattle.std.proofs.lemmas.Grind.{common_steps}
use Rattle.vl_elab_const.specs.Given.{value_given}
use Rattle.vl_elab_params.specs.Entered.{stacks, with_parameters}
use Rattle.vl_elab_params.proofs.parameters.add_parameters.Goals as goal

pub loop-parameter-preserved : goal.loop-parameter-preserved
loop-parameter-preserved c =
    let given = value_given c.args.given.now in
    let front : drop c.loop-parameter.parameter-index c.args.all.now ≡ c.parameter-item.result
    ∷ drop (c.loop-parameter.parameter-index + 1) c.args.all.now = grind (arith, common_steps) in
    ap (λ s. with_parameters given s (drop (c.loop-parameter.parameter-index + 1) c.args.all.now))
    c.in_ok-add_parameter.ensures
    ∙ ap (λ xs. with_parameters given (stacks c.loop-parameter.names c.loop-parameter.numbers) xs) (sym front)
    ∙ c.loop-parameter.invariant

pub returns : goal.returns
returns c =
    let given = value_given c.args.given.now in
    let gone : drop c.loop-parameter.parameter-index c.args.all.now ≡ [] = grind (arith, common_steps) in
    ap (λ xs. with_parameters given (stacks c.loop-parameter.names c.loop-parameter.numbers) xs) (sym gone)
    ∙ c.loop-parameter.invariant
