use Rattle.std.proofs.Common.{◌≡◌, ◌∙◌, ◌+◌, [], ◌∷◌, ap, sym, arith}
use Rattle.std.specs.Prelude.{drop}
use Rattle.std.proofs.lemmas.Grind.{common_steps}
use Rattle.std.specs.Prelude.{map}
use Rattle.vl_elab_params.specs.Passed.{with_all_passed}
use Rattle.vl_elab_params.proofs.names.pass_parameters.Goals as goal

pub loop-parameter-preserved : goal.loop-parameter-preserved
loop-parameter-preserved c =
    let pending = c.args.pending.now in
    let names = c.args.names.now in
    let rest = drop (c.loop-parameter.parameter-index + 1) c.args.all.now in
    let front : drop c.loop-parameter.parameter-index c.args.all.now ≡ c.parameter-item.result
    ∷ drop (c.loop-parameter.parameter-index + 1) c.args.all.now = grind (arith, common_steps) in
    ap (λ l. with_all_passed pending names l (map (λ x. x.name) rest)) c.in_ok-pass_name.ensures
    ∙ ap (λ xs. with_all_passed pending names c.loop-parameter.passed (map (λ x. x.name) xs)) (sym front)
    ∙ c.loop-parameter.invariant

pub returns : goal.returns
returns c =
    let pending = c.args.pending.now in
    let names = c.args.names.now in
    let gone : drop c.loop-parameter.parameter-index c.args.all.now ≡ [] = grind (arith, common_steps) in
    ap (λ xs. with_all_passed pending names c.loop-parameter.passed (map (λ x. x.name) xs)) (sym gone)
    ∙ c.loop-parameter.invariant
