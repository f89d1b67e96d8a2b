use Rattle.std.proofs.Common.{◌≡◌, [], List, ℕ}
use Rattle.std.specs.Prelude.{drop}
use Rattle.vl_tree.specs.declared.source.Module.{Module}
use Rattle.vl_mean.specs.Walk.{Place, Use, override_steps}
use Rattle.vl_elab_spec.specs.Items.{inner_meanings}
use Rattle.vl_elab_spec.specs.Meanings.{meanings_at}
use Rattle.vl_elab_spec.specs.Refused.{Totals}
use Rattle.vl_elab_scope.specs.Alike.{Alike}
use Rattle.vl_elab_names.specs.Known.{AreNames}
use Rattle.vl_elab_spec.specs.Walked.{AreTotals}
use Rattle.vl_elab_check.specs.Left.{AreLeft}
use Rattle.vl_elab_check.proofs.connections.walk_overrides.Given as goal

abbrev pub invariant-loop-given : goal.invariant-loop-given
invariant-loop-given l = record {
  path : l.walk.path ≡ l.fn.walk.path;
  walked : (ms : List Module) (at : Place) (u : Use) (t : Totals) → Alike l.names (meanings_at at)
      → Alike l.inner (inner_meanings l.module u) → AreTotals l.fn.walk.totals t
      → (now : List (List ℕ)) × AreNames l.earlier now
      × AreLeft ms t (override_steps at l.module u [] l.all) l.walk.totals
      (override_steps at l.module u now (drop l.given-index l.all));
}
