use Rattle.std.proofs.Common.{◌≡◌, ◌+◌, ◌++◌, [], ◌∷◌, ap, arith}
use Rattle.std.specs.Prelude.{drop}
use Rattle.std.proofs.lemmas.Grind.{common_steps}
use Rattle.vl_mean.specs.Declarations.{header_parameters}
use Rattle.vl_mean.specs.Walk.{parameter_names}
use Rattle.vl_elab_names.proofs.Ahead.{on, ended}
use Rattle.vl_elab_names.proofs.scope_names_labels.add_header.Goals as goal

pub loop-parameter-preserved : goal.loop-parameter-preserved
loop-parameter-preserved c =
    let rest = drop (c.loop-parameter.parameter-index + 1) c.args.all.now in
    let front : drop c.loop-parameter.parameter-index c.args.all.now ≡ c.parameter-item.result
    ∷ drop (c.loop-parameter.parameter-index + 1) c.args.all.now = grind (arith, common_steps) in
    on c.loop-parameter.names c.add.new.names (c.parameter-item.result.parameter.name ∷ [])
    (parameter_names (header_parameters rest))
    (parameter_names (header_parameters (drop c.loop-parameter.parameter-index c.args.all.now)))
    (c.args.names.now ++ parameter_names (header_parameters c.args.all.now))
    c.in_ok-add.ensures (ap (λ xs. parameter_names (header_parameters xs)) front) c.loop-parameter.invariant

pub returns : goal.returns
returns c =
    let gone : drop c.loop-parameter.parameter-index c.args.all.now ≡ [] = grind (arith, common_steps) in
    ended c.loop-parameter.names
    (parameter_names (header_parameters (drop c.loop-parameter.parameter-index c.args.all.now)))
    (c.args.names.now ++ parameter_names (header_parameters c.args.all.now))
    (ap (λ xs. parameter_names (header_parameters xs)) gone) c.loop-parameter.invariant
