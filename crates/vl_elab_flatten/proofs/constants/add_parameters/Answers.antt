use Rattle.std.proofs.Common.{◌≡◌, ◌+◌, [], ◌∷◌, ap, arith}
use Rattle.std.specs.Prelude.{drop}
use Rattle.std.proofs.lemmas.Grind.{common_steps}
use Rattle.vl_elab_const.specs.Given.{value_given}
use Rattle.vl_mean.specs.Declarations.{with_parameters}
use Rattle.vl_mean.specs.Walk.{parameter_names}
use Rattle.vl_elab_flatten.proofs.Adding.{parameters_first, parameters_last, parameters_on}
use Rattle.vl_elab_flatten.proofs.constants.add_parameters.Goals as goal

pub loop-parameter-init : goal.loop-parameter-init
loop-parameter-init c os ss path cs outer g h d has =
    parameters_first (value_given c.args.given.now) os ss path outer g h cs c.args.all.now c.args.scope.now
    c.args.numbers.now d has

pub loop-parameter-preserved : goal.loop-parameter-preserved
loop-parameter-preserved c os ss path cs outer g h d has =
    let rest = drop (c.loop-parameter.parameter-index + 1) c.args.all.now in
    let front : drop c.loop-parameter.parameter-index c.args.all.now ≡ c.parameter-item.result
    ∷ drop (c.loop-parameter.parameter-index + 1) c.args.all.now = grind (arith, common_steps) in
    parameters_on (value_given c.args.given.now) os ss path outer g h
    (with_parameters os ss cs c.args.all.now) c.loop-parameter.scope
    c.add_parameter.new.scope c.loop-parameter.numbers c.add_parameter.new.numbers c.parameter-item.result
    rest (drop c.loop-parameter.parameter-index c.args.all.now)
    front c.in_ok-add_parameter.ensures (c.loop-parameter.invariant os ss path cs outer g h d has)

pub returns : goal.returns
returns c os ss path cs outer g h d has =
    let gone : drop c.loop-parameter.parameter-index c.args.all.now ≡ [] = grind (arith, common_steps) in
    parameters_last (value_given c.args.given.now) os ss path outer g h
    (with_parameters os ss cs c.args.all.now) c.loop-parameter.scope
    c.loop-parameter.numbers (drop c.loop-parameter.parameter-index c.args.all.now)
    gone (c.loop-parameter.invariant os ss path cs outer g h d has)
