use Rattle.std.proofs.Common.{◌≡◌, ◌++◌, List, ℕ}
use Rattle.std.specs.Option.{option_copied}
use Rattle.std.specs.Prelude.{drop, None}
use Rattle.vl_tree.specs.declared.source.Module.{Module}
use Rattle.vl_mean.specs.Declarations.{full_ports}
use Rattle.vl_mean.specs.Walk.{Place, Use, port_names, port_steps}
use Rattle.vl_elab_spec.specs.Meanings.{meanings_at}
use Rattle.vl_elab_spec.specs.Refused.{Totals}
use Rattle.vl_elab_scope.specs.Alike.{Alike}
use Rattle.vl_elab_names.specs.Known.{AreNames}
use Rattle.vl_elab_params.specs.Reached.{IsReached}
use Rattle.vl_elab_spec.specs.Walked.{AreTotals}
use Rattle.vl_elab_check.specs.Left.{AreLeft}
use Rattle.vl_elab_check.proofs.ports.walk_ports.Given as goal

abbrev pub invariant-loop-port : goal.invariant-loop-port
invariant-loop-port l =
    let last = option_copied l.last in
    let rest = drop l.port-index l.ports in
    record {
      earlier : (before : List (List ℕ)) → AreNames l.fn.earlier before
          → (now : List (List ℕ)) × AreNames l.earlier now
          × (now ++ port_names (full_ports last rest) ≡ before ++ port_names (full_ports None l.ports));
      reached : (at : Place) (before : List (List ℕ)) → Alike l.names (meanings_at at)
          → IsReached l.fn.reached at before
          → (now : List (List ℕ)) × IsReached l.reached at now
          × (now ++ port_names (full_ports last rest) ≡ before ++ port_names (full_ports None l.ports));
      walked : (ms : List Module) (at : Place) (u : Use) (t : Totals) → Alike l.names (meanings_at at)
          → AreNames l.fn.earlier at.earlier → AreTotals l.fn.totals t
          → (now : List (List ℕ)) × AreNames l.earlier now
          × AreLeft ms t (port_steps at u None l.ports) l.totals
          (port_steps (record at { earlier = now }) u last rest);
    }
