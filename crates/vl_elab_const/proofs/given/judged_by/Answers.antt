use Rattle.std.proofs.Common.{List, ℕ, ◌≡◌}
use Rattle.std.specs.Prelude.{Some}
use Rattle.std.proofs.lemmas.Result.{IfOk-weaker}
use Rattle.vl_mean.specs.Scopes.{Scope}
use Rattle.vl_mean.specs.Walk.{overrides_of}
use Rattle.vl_elab_spec.specs.Items.{has_value}
use Rattle.vl_elab_spec.specs.Meanings.{Names}
use Rattle.vl_elab_scope.specs.Alike.{Alike}
use Rattle.vl_elab_const.specs.Given.{IsGiven, is_value, value_given, first_value}
use Rattle.vl_elab_const.specs.Numbers.{HaveNumbers}
use Rattle.vl_elab_const.proofs.Gives.{all_given, judged_given}
use Rattle.vl_elab_const.proofs.given.judged_by.Goals as goal

pub returns : goal.returns
returns c =
    let ns = c.args.numbers.now in
    let names = c.args.names.now in
    IfOk-weaker c.all_written.result
    (λ given. (name : List ℕ) → value_given given name ≡ first_value (is_value (Some names)) ns c.args.all.now name)
    (λ given. (known : List Names) (ss : List Scope) → Alike names known → HaveNumbers ns ss
    → IsGiven (value_given given) (overrides_of (has_value known) ss c.args.all.now))
    (λ given h known ss same k. judged_given names known same ss c.args.all.now (value_given given)
    (all_given (has_value names) ns ss k (value_given given) c.args.all.now h)) c.all_written.ensures
