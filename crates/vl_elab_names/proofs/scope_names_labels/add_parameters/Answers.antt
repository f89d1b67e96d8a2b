use Rattle.std.proofs.Common.{◌≡◌, ◌+◌, ◌++◌, [], ◌∷◌, ap, arith}
use Rattle.std.specs.Prelude.{drop}
use Rattle.std.proofs.lemmas.Grind.{common_steps}
use Rattle.std.specs.Prelude.{map}
use Rattle.vl_elab_names.proofs.Ahead.{on, ended}
use Rattle.vl_elab_names.proofs.scope_names_labels.add_parameters.Goals as goal

pub loop-parameter-preserved : goal.loop-parameter-preserved
loop-parameter-preserved c =
    let rest = drop (c.loop-parameter.parameter-index + 1) c.args.all.now in
    let front : drop c.loop-parameter.parameter-index c.args.all.now ≡ c.parameter-item.result
    ∷ drop (c.loop-parameter.parameter-index + 1) c.args.all.now = grind (arith, common_steps) in
    on c.loop-parameter.names c.add.new.names (c.parameter-item.result.name ∷ [])
    (map (λ x. x.name) rest)
    (map (λ x. x.name) (drop c.loop-parameter.parameter-index c.args.all.now))
    (c.args.names.now ++ map (λ x. x.name) c.args.all.now)
    c.in_ok-add.ensures (ap (λ xs. map (λ x. x.name) xs) front) c.loop-parameter.invariant

pub returns : goal.returns
returns c =
    let gone : drop c.loop-parameter.parameter-index c.args.all.now ≡ [] = grind (arith, common_steps) in
    ended c.loop-parameter.names (map (λ x. x.name) (drop c.loop-parameter.parameter-index c.args.all.now))
    (c.args.names.now ++ map (λ x. x.name) c.args.all.now)
    (ap (λ xs. map (λ x. x.name) xs) gone) c.loop-parameter.invariant
