use Rattle.std.proofs.Common.{◌∙◌, ◌++◌, [], ◌∷◌, ap, sym, subst}
use Rattle.std.specs.Option.{option_copied}
use Rattle.std.proofs.lemmas.Result.{on_ok_weaker}
use Rattle.std.proofs.lemmas.List.{append_assoc}
use Rattle.vl_mean.specs.Cells.{contains_name}
use Rattle.vl_mean.specs.Declarations.{labels_of}
use Rattle.vl_elab_spec.specs.Meanings.{item_names}
use Rattle.vl_elab_names.specs.Known.{AreNames, contains}
use Rattle.vl_elab_check_scope.proofs.NameLemmas.{same_names}
use Rattle.vl_elab_check.proofs.ItemKinds.{named_instance, labels_behind}
use Rattle.vl_elab_check.proofs.passed.add_rest.Goals as goal

pub returns-in-None : goal.returns-in-None
returns-in-None c =
    let x = c.args.item.now in
    on_ok_weaker c.add_labels.result (λ h before names.
    subst (AreNames c.add_labels.new.earlier) (append_assoc before (item_names x) (labels_of x)
    ∙ ap (λ l. before ++ l) (sym (labels_behind x (sym c.instance_name.ensures ∙ ap option_copied c.in-None.is))))
    (h (before ++ item_names x) names)) c.add_labels.ensures

pub returns-in-Some : goal.returns-in-Some
returns-in-Some c =
    let x = c.args.item.now in
    let name = c.in-Some.name.now in
    on_ok_weaker c.add_name.result (λ h before names text.
    h text ∙ same_names (contains c.args.earlier.now) (before ++ item_names x) names (name ∷ []) text
    ∙ ap (λ l. contains_name l text) (append_assoc before (item_names x) (name ∷ [])
    ∙ ap (λ l. before ++ l)
    (sym (named_instance x name (sym c.instance_name.ensures ∙ ap option_copied c.in-Some.is))))) c.add_name.ensures
