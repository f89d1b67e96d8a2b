use Rattle.std.proofs.Common.{subst, sym}
use Rattle.std.proofs.lemmas.Result.{on_ok_weaker}
use Rattle.vl_mean.specs.Walk.{parameter_names}
use Rattle.vl_elab_const.specs.Given.{value_given}
use Rattle.vl_elab_flatten.specs.Levels.{Adds, with_declared}
use Rattle.vl_elab_flatten.proofs.Adding.{local_added}
use Rattle.vl_elab_flatten.proofs.constants.add_declared.Goals as goal

pub returns-in-Parameter : goal.returns-in-Parameter
returns-in-Parameter c =
    let given = value_given c.args.given.now in
    let xs = c.args.all.now in
    on_ok_weaker c.add_parameters.result (λ h. subst (λ k. Adds given (λ os ss cs. with_declared k os ss cs xs)
    (parameter_names xs) c.args.scope.now c.args.numbers.now c.add_parameters.new.scope c.add_parameters.new.numbers)
    (sym c.in-Parameter.is) h) c.add_parameters.ensures

pub returns-in-Localparam : goal.returns-in-Localparam
returns-in-Localparam c =
    let given = value_given c.args.given.now in
    let xs = c.args.all.now in
    let t = c.add_parameters-in-Localparam.new.scope in
    let ms = c.add_parameters-in-Localparam.new.numbers in
    on_ok_weaker c.add_parameters-in-Localparam.result (λ h. subst (λ k. Adds given
    (λ os ss cs. with_declared k os ss cs xs) (parameter_names xs) c.args.scope.now c.args.numbers.now t ms)
    (sym c.in-Localparam.is)
    (local_added given (value_given c.args.nothing.now) c.requires xs c.args.scope.now t c.args.numbers.now ms h))
    c.add_parameters-in-Localparam.ensures
