use Rattle.std.proofs.Common.{ap, ◌∙◌, ◌≡◌, List, ℕ}
use Rattle.std.proofs.lemmas.Result.{IfOk-weaker}
use Rattle.vl_elab_spec.specs.Items.{labels_twice, placed_labels}
use Rattle.vl_elab_spec.specs.Refused.{lowest}
use Rattle.vl_elab_names.specs.Known.{AreNames, contains}
use Rattle.vl_elab_check_scope.specs.Parts.{labels_by}
use Rattle.vl_elab_check_scope.proofs.LabelLemmas.{same_labels}
use Rattle.vl_elab_check_scope.proofs.labels.labels_fault.Goals as goal

pub returns : goal.returns
returns c =
    let g = contains c.args.earlier.now in
    let xs = placed_labels c.args.item.now in
    IfOk-weaker c.item_labels.result (λ f. f ≡ lowest (labels_by g xs))
    (λ f. (names : List (List ℕ)) → AreNames c.args.earlier.now names → f ≡ lowest (labels_twice names xs))
    (λ f h names k. h ∙ ap lowest (same_labels g names k xs)) c.item_labels.ensures
