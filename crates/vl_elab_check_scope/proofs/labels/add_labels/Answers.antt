use Rattle.std.proofs.Common.{ap, ◌∙◌}
use Rattle.std.proofs.lemmas.Result.{on_ok_weaker}
use Rattle.vl_mean.specs.Declarations.{labels_of}
use Rattle.vl_elab_names.specs.Known.{contains}
use Rattle.vl_elab_check_scope.proofs.NameLemmas.{same_names}
use Rattle.vl_elab_check_scope.proofs.labels.add_labels.Goals as goal

pub returns : goal.returns
returns c =
    let g = contains c.args.earlier.now in
    let xs = labels_of c.args.item.now in
    on_ok_weaker c.add_item_labels.result
    (λ made names k text. ap (λ f. f text) made ∙ same_names g names k xs text) c.add_item_labels.ensures
