use Rattle.std.proofs.Common.{ap, ◌∙◌, ◌≡◌, List, ℕ}
use Rattle.std.specs.Prelude.{map}
use Rattle.std.proofs.lemmas.Result.{IfOk-weaker, on_ok_weaker}
use Rattle.vl_elab_spec.specs.Items.{twice, placed_names}
use Rattle.vl_elab_spec.specs.Refused.{lowest}
use Rattle.vl_elab_names.specs.Known.{AreNames, contains}
use Rattle.vl_elab_check_scope.specs.Parts.{twice_by}
use Rattle.vl_elab_check_scope.proofs.NameLemmas.{same_twice, same_names}
use Rattle.vl_elab_check_scope.proofs.twice.declared_twice.Goals as goal

pub returns-clause-fault : goal.returns-clause-fault
returns-clause-fault c =
    let g = contains c.args.earlier.now in
    let xs = placed_names c.args.all.now in
    IfOk-weaker c.all_declared.result (λ f. f ≡ lowest (twice_by g xs))
    (λ f. (names : List (List ℕ)) → AreNames c.args.earlier.now names → f ≡ lowest (twice names xs))
    (λ f h names k. h ∙ ap lowest (same_twice g names k xs)) c.all_declared.ensures.fault

pub returns-clause-names : goal.returns-clause-names
returns-clause-names c =
    let g = contains c.args.earlier.now in
    let xs = map (λ x. x.name) c.args.all.now in
    on_ok_weaker c.all_declared.result
    (λ made names k text. ap (λ f. f text) made ∙ same_names g names k xs text) c.all_declared.ensures.names
