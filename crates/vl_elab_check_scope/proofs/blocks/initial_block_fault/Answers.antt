use Rattle.std.proofs.Common.{◌≡◌, ◌∙◌, ap, List}
use Rattle.std.proofs.lemmas.Result.{IfOk-weaker}
use Rattle.vl_elab_spec.specs.Meanings.{Names}
use Rattle.vl_elab_spec.specs.Refused.{lowest}
use Rattle.vl_elab_spec.specs.Statements.{initial_refusals}
use Rattle.vl_elab_scope.specs.Alike.{Alike}
use Rattle.vl_elab_scope.proofs.Stmts.{same_initial}
use Rattle.vl_elab_check_scope.proofs.blocks.initial_block_fault.Goals as goal

pub returns : goal.returns
returns c =
    let ns = c.args.names.now in
    let stmt = c.args.stmt.now in
    IfOk-weaker c.initial_fault.result (λ g. g ≡ lowest (initial_refusals ns stmt))
    (λ g. (known : List Names) → Alike ns known → g ≡ lowest (initial_refusals known stmt))
    (λ g h known same. h ∙ ap lowest (same_initial ns known same stmt)) c.initial_fault.ensures
