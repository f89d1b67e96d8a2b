use Rattle.std.proofs.Common.{◌≡◌, [], List, ℕ}
use Rattle.std.specs.Prelude.{drop}
use Rattle.vl_tree.specs.declared.source.Module.{Module}
use Rattle.vl_mean.specs.Scopes.{Scope}
use Rattle.vl_mean.specs.Walk.{Place, Use, connection_steps}
use Rattle.vl_elab_spec.specs.Items.{inner_meanings}
use Rattle.vl_elab_spec.specs.Meanings.{meanings_at}
use Rattle.vl_elab_spec.specs.Refused.{Totals}
use Rattle.vl_elab_scope.specs.Alike.{Alike}
use Rattle.vl_elab_names.specs.Known.{AreNames, contains}
use Rattle.vl_elab_decls.specs.Stands.{Stands}
use Rattle.vl_elab_spec.specs.Walked.{AreTotals}
use Rattle.vl_elab_check.specs.Left.{AreLeft}
use Rattle.vl_elab_check.proofs.connections.walk_connections.Given as goal

abbrev pub invariant-loop-given : goal.invariant-loop-given
invariant-loop-given l = record {
  path : l.walk.path ≡ l.fn.walk.path;
  walked : (ms : List Module) (at : Place) (u : Use) (inside : List Scope) (t : Totals)
      → Stands l.inside.names l.inside.numbers (contains l.inside.clocks) (meanings_at at) at.scopes
      → Alike l.inner (inner_meanings l.module u) → AreTotals l.fn.walk.totals t
      → (now : List (List ℕ)) × AreNames l.earlier now
      × AreLeft ms t (connection_steps at l.module u inside [] l.all) l.walk.totals
      (connection_steps at l.module u inside now (drop l.given-index l.all));
}
