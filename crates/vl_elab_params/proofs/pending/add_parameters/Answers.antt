use Rattle.std.proofs.Common.{◌≡◌, ◌∙◌, ◌+◌, [], ◌∷◌, ap, sym, arith}
use Rattle.std.specs.Prelude.{drop}
use Rattle.std.proofs.lemmas.Grind.{common_steps}
use Rattle.vl_mean.specs.Walk.{parameter_names}
use Rattle.vl_elab_params.specs.Entered.{with_later}
use Rattle.vl_elab_params.proofs.pending.add_parameters.Goals as goal

pub loop-parameter-preserved : goal.loop-parameter-preserved
loop-parameter-preserved c =
    let front : drop c.loop-parameter.parameter-index c.args.all.now ≡ c.parameter-item.result
    ∷ drop (c.loop-parameter.parameter-index + 1) c.args.all.now = grind (arith, common_steps) in
    ap (λ l. with_later l (parameter_names (drop (c.loop-parameter.parameter-index + 1) c.args.all.now)))
    c.in_ok-add_later.ensures
    ∙ ap (λ xs. with_later c.loop-parameter.level (parameter_names xs)) (sym front)
    ∙ c.loop-parameter.invariant

pub returns : goal.returns
returns c =
    let gone : drop c.loop-parameter.parameter-index c.args.all.now ≡ [] = grind (arith, common_steps) in
    ap (λ xs. with_later c.loop-parameter.level (parameter_names xs)) (sym gone)
    ∙ c.loop-parameter.invariant
