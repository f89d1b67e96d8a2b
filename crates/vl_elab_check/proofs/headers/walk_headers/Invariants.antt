use Rattle.std.proofs.Common.{◌≡◌, ◌++◌, List, ℕ}
use Rattle.std.specs.Prelude.{drop}
use Rattle.vl_tree.specs.declared.source.Module.{Module}
use Rattle.vl_mean.specs.Declarations.{header_parameters}
use Rattle.vl_mean.specs.Walk.{Place, header_steps, parameter_names}
use Rattle.vl_elab_spec.specs.Meanings.{meanings_at}
use Rattle.vl_elab_spec.specs.Refused.{Totals}
use Rattle.vl_elab_scope.specs.Alike.{Alike}
use Rattle.vl_elab_names.specs.Known.{AreNames}
use Rattle.vl_elab_params.specs.Reached.{AreAround, IsReached}
use Rattle.vl_elab_check_scope.specs.Gives.{Gives}
use Rattle.vl_elab_spec.specs.Walked.{AreTotals}
use Rattle.vl_elab_check.specs.Left.{AreLeft}
use Rattle.vl_elab_check.proofs.headers.walk_headers.Given as goal

abbrev pub invariant-loop-parameter : goal.invariant-loop-parameter
invariant-loop-parameter l =
    let all = header_parameters l.parameters in
    let rest = header_parameters (drop l.parameter-index l.parameters) in
    record {
      inside : l.inside ≡ l.fn.inside;
      earlier : (before : List (List ℕ)) → AreNames l.fn.earlier before
          → (now : List (List ℕ)) × AreNames l.earlier now
          × (now ++ parameter_names rest ≡ before ++ parameter_names all);
      reached : (at : Place) (before : List (List ℕ)) → Alike l.fn.inside.names (meanings_at at)
          → IsReached l.fn.reached at before
          → (now : List (List ℕ)) × IsReached l.reached at now
          × (now ++ parameter_names rest ≡ before ++ parameter_names all);
      walked : (ms : List Module) (at : Place) (t : Totals) → Alike l.fn.inside.names (meanings_at at)
          → AreAround l.fn.inside.around at → AreNames l.fn.earlier at.earlier → IsReached l.fn.reached at at.earlier → Gives l.given at
          → AreTotals l.fn.totals t
          → (now : List (List ℕ)) × AreNames l.earlier now × IsReached l.reached at now
          × AreLeft ms t (header_steps at all) l.totals (header_steps (record at { earlier = now }) rest);
    }
