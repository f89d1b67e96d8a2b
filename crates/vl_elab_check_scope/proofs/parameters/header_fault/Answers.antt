use Rattle.std.proofs.Common.{◌≡◌, ◌∙◌, ap, sym, List, ℕ}
use Rattle.std.proofs.lemmas.Result.{IfOk-weaker}
use Rattle.vl_mean.specs.Walk.{Place}
use Rattle.vl_elab_spec.specs.Items.{is_given, parameter_refusals}
use Rattle.vl_elab_spec.specs.Meanings.{meanings_at}
use Rattle.vl_elab_spec.specs.Refused.{lowest}
use Rattle.vl_elab_scope.specs.Alike.{Alike}
use Rattle.vl_elab_names.specs.Known.{AreNames}
use Rattle.vl_elab_params.specs.Reached.{AreAround, IsReached}
use Rattle.vl_elab_check_scope.specs.Gives.{Gives}
use Rattle.vl_elab_check_scope.proofs.Behind.{given_test}
use Rattle.vl_elab_check_scope.proofs.parameters.header_fault.Goals as goal

pub returns-clause-fault : goal.returns-clause-fault
returns-clause-fault c =
    let inside = c.args.inside.now in
    let x = c.args.parameter.now in
    let given = c.args.given.now in
    let test = c.is_some-is_given.result in
    IfOk-weaker c.with_parameter.result
    (λ g. (at : Place) (before : List (List ℕ)) → Alike inside.names (meanings_at at)
    → AreAround inside.around at → AreNames c.args.earlier.now before
    → IsReached c.args.reached.now at before → g ≡ lowest (parameter_refusals at test before x))
    (λ g. (at : Place) → Alike inside.names (meanings_at at)
    → AreAround inside.around at → AreNames c.args.earlier.now at.earlier
    → IsReached c.args.reached.now at at.earlier → Gives given at
    → g ≡ lowest (parameter_refusals at (is_given at.contents x.name) at.earlier x))
    (λ g h at same said names reached gives. h at at.earlier same said names reached
    ∙ ap (λ b. lowest (parameter_refusals at b at.earlier x))
    (given_test given x.name test c.get.result c.is_some-is_given.ensures c.get.ensures ∙ sym (gives x.name)))
    c.with_parameter.ensures.fault
