use Rattle.std.proofs.Common.{◌≡◌}
use Rattle.std.specs.Prelude.{◌&&◌, is_none}
use Rattle.std.proofs.lemmas.Result.{IfOk-weaker}
use Rattle.vl_elab_check_item.specs.TurnParts.{begins, holds}
use Rattle.vl_elab_check_item.proofs.Heads.{same_test}
use Rattle.vl_elab_check_item.proofs.head.first_begins.Goals as goal

pub returns : goal.returns
returns c =
    let ns = c.args.names.now in
    let numbers = c.args.numbers.now in
    let head = c.args.head.now in
    let own = c.in_ok-own.own in
    IfOk-weaker c.begins.result (λ b. b ≡ (is_none own && holds ns numbers head))
    (λ b. b ≡ begins ns numbers head)
    (λ b h. same_test ns numbers head own b c.in_ok-own.ensures h) c.begins.ensures
