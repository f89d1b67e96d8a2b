use Rattle.std.proofs.Common.{◌≡◌, ◌∙◌, ap, List}
use Rattle.std.proofs.lemmas.Result.{IfOk-weaker}
use Rattle.vl_elab_spec.specs.Items.{assignments_refusals}
use Rattle.vl_elab_spec.specs.Meanings.{Names}
use Rattle.vl_elab_spec.specs.Refused.{lowest}
use Rattle.vl_elab_scope.specs.Alike.{Alike}
use Rattle.vl_elab_scope.proofs.Items.{same_assignments}
use Rattle.vl_elab_check_scope.proofs.blocks.assign_fault.Goals as goal

pub returns : goal.returns
returns c =
    let ns = c.args.names.now in
    let xs = c.args.all.now in
    IfOk-weaker c.assignments_fault.result (λ g. g ≡ lowest (assignments_refusals ns xs))
    (λ g. (known : List Names) → Alike ns known → g ≡ lowest (assignments_refusals known xs))
    (λ g h known same. h ∙ ap lowest (same_assignments ns known same xs)) c.assignments_fault.ensures
