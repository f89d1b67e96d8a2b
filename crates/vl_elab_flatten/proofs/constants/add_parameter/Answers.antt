use Rattle.std.proofs.lemmas.Result.{on_ok_weaker}
use Rattle.vl_elab_const.specs.Given.{value_given}
use Rattle.vl_elab_flatten.proofs.Adding.{parameter_added}
use Rattle.vl_elab_flatten.proofs.constants.add_parameter.Goals as goal

pub returns : goal.returns
returns c =
    on_ok_weaker c.add_constant.result (λ e. parameter_added (value_given c.args.given.now) c.args.parameter.now
    c.in_ok-value.value c.args.scope.now c.add_constant.new.scope c.args.numbers.now c.add_constant.new.numbers
    c.in_ok-value.ensures.value e) c.add_constant.ensures
