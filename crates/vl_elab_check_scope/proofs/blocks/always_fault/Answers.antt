use Rattle.std.proofs.Common.{◌≡◌, ◌++◌, ◌∙◌, ap, List}
use Rattle.std.proofs.lemmas.Result.{IfOk-weaker}
use Rattle.vl_elab_spec.specs.Items.{event_refusals}
use Rattle.vl_elab_spec.specs.Meanings.{Names}
use Rattle.vl_elab_spec.specs.Refused.{lowest}
use Rattle.vl_elab_spec.specs.Statements.{stmt_refusals}
use Rattle.vl_elab_scope.specs.Alike.{Alike}
use Rattle.vl_elab_check_scope.proofs.Known.{always_alike}
use Rattle.vl_elab_check_scope.proofs.blocks.always_fault.Goals as goal

pub returns : goal.returns
returns c =
    let ns = c.args.names.now in
    let event = c.args.event.now in
    let stmt = c.args.stmt.now in
    IfOk-weaker c.event_and_stmt.result
    (λ g. g ≡ lowest (event_refusals ns event.pos event.kind ++ stmt_refusals ns stmt))
    (λ g. (known : List Names) → Alike ns known
    → g ≡ lowest (event_refusals known event.pos event.kind ++ stmt_refusals known stmt))
    (λ g h known same. h ∙ ap lowest (always_alike ns known same event stmt)) c.event_and_stmt.ensures
