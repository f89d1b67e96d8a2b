use Rattle.std.proofs.Common.{List, ◌≡◌, ◌∙◌}
use Rattle.std.proofs.lemmas.Result.{IfOk-weaker}
use Rattle.vl_mean.specs.Declarations.{Overrides, parameter_value}
use Rattle.vl_mean.specs.Scopes.{Scope}
use Rattle.vl_elab_const.specs.Given.{IsGiven, value_given}
use Rattle.vl_elab_const.specs.Numbers.{HaveNumbers, parameter_number}
use Rattle.vl_elab_const.proofs.Values.{number_is}
use Rattle.vl_elab_const.proofs.parameter.parameter_value.Goals as goal

pub returns-clause-value : goal.returns-clause-value
returns-clause-value c =
    IfOk-weaker c.number.result
    (λ n. n ≡ parameter_number c.args.numbers.now (value_given c.args.given.now) c.args.parameter.now)
    (λ n. (os : Overrides) (ss : List Scope) → IsGiven (value_given c.args.given.now) os
    → HaveNumbers c.args.numbers.now ss → n ≡ parameter_value os ss c.args.parameter.now)
    (λ n h os ss g k. h ∙ number_is c.args.numbers.now ss k (value_given c.args.given.now) os g c.args.parameter.now)
    c.number.ensures
