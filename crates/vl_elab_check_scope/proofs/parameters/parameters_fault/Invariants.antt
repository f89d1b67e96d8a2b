use Rattle.std.proofs.Common.{◌≡◌, List, ℕ}
use Rattle.std.specs.Prelude.{drop}
use Rattle.vl_mean.specs.Walk.{Place}
use Rattle.vl_elab_spec.specs.Items.{parameters_refusals}
use Rattle.vl_elab_spec.specs.Meanings.{meanings_at}
use Rattle.vl_elab_spec.specs.Refused.{lower_of, lowest}
use Rattle.vl_elab_scope.specs.Alike.{Alike}
use Rattle.vl_elab_names.specs.Known.{AreNames}
use Rattle.vl_elab_params.specs.Reached.{AreAround, IsReached}
use Rattle.vl_elab_check_scope.specs.Gives.{Gives}
use Rattle.vl_elab_check_scope.proofs.Behind.{names_before}
use Rattle.vl_elab_check_scope.proofs.parameters.parameters_fault.Given as goal

abbrev pub invariant-loop-parameter : goal.invariant-loop-parameter
invariant-loop-parameter l = record {
  inside : l.inside ≡ l.fn.inside;
  earlier : (before : List (List ℕ)) → AreNames l.fn.earlier before
      → AreNames l.earlier (names_before before l.parameter-index l.all);
  reached : (at : Place) (before : List (List ℕ)) → Alike l.fn.inside.names (meanings_at at)
      → IsReached l.fn.reached at before → IsReached l.reached at (names_before before l.parameter-index l.all);
  fault : (at : Place) (before : List (List ℕ)) → Alike l.fn.inside.names (meanings_at at)
      → AreAround l.fn.inside.around at → AreNames l.fn.earlier before
      → IsReached l.fn.reached at before → Gives l.given at
      → lower_of l.fault (lowest (parameters_refusals at l.kind (names_before before l.parameter-index l.all)
      (drop l.parameter-index l.all)))
      ≡ lowest (parameters_refusals at l.kind before l.all);
}
