use Rattle.std.proofs.Common.{◌≡◌, ◌∙◌, sym}
use Rattle.std.specs.Prelude.{◌&&◌, is_none}
use Rattle.std.proofs.lemmas.Result.{IfOk-weaker}
use Rattle.vl_elab_spec.specs.Items.{has_value}
use Rattle.vl_elab_check_item.proofs.Heads.{begins_not, begins_where}
use Rattle.vl_elab_check_item.proofs.head.starts.Goals as goal

pub returns-then-is_some : goal.returns-then-is_some
returns-then-is_some c =
    begins_not c.args.own.now (has_value c.args.names.now c.args.head.now.start)
    (sym c.is_some.ensures ∙ c.if-is_some.true)

pub returns : goal.returns
returns c =
    let own = c.args.own.now in
    let test = has_value c.args.names.now c.args.head.now.start in
    IfOk-weaker c.has_value.result (λ b. b ≡ test) (λ b. b ≡ (is_none own && test))
    (λ b h. h ∙ begins_where own test (sym c.is_some.ensures ∙ c.if-is_some.false)) c.has_value.ensures
