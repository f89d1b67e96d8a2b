use Rattle.std.proofs.Common.{List, ℕ, ◌≡◌}
use Rattle.std.proofs.lemmas.Result.{IfOk-weaker}
use Rattle.vl_mean.specs.Scopes.{Scope}
use Rattle.vl_mean.specs.Walk.{has_any, overrides_of}
use Rattle.vl_elab_const.specs.Given.{IsGiven, value_given, first_value}
use Rattle.vl_elab_const.specs.Numbers.{HaveNumbers}
use Rattle.vl_elab_const.proofs.Gives.{all_given}
use Rattle.vl_elab_const.proofs.given.given_by.Goals as goal

pub returns : goal.returns
returns c =
    IfOk-weaker c.all_written.result
    (λ given. (name : List ℕ) → value_given given name ≡ first_value has_any c.args.numbers.now c.args.all.now name)
    (λ given. (ss : List Scope) → HaveNumbers c.args.numbers.now ss
    → IsGiven (value_given given) (overrides_of has_any ss c.args.all.now))
    (λ given h ss k. all_given has_any c.args.numbers.now ss k (value_given given) c.args.all.now h) c.all_written.ensures
