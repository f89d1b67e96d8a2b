use Rattle.std.specs.Prelude.{drop}
use Rattle.vl_tree.specs.declared.source.Module.{Module}
use Rattle.vl_elab_check_instance.specs.Ports.{AreDirectionsOf}
use Rattle.vl_elab_emit.proofs.Standing.{Rest}
use Rattle.vl_elab_flatten.specs.PortParts.{placed_connections}
use Rattle.vl_elab_flatten.proofs.connections.write_connections.Given as goal

abbrev pub invariant-loop-given : goal.invariant-loop-given
invariant-loop-given l =
    (m : Module) → AreDirectionsOf l.ports m
    → Rest l.fn.draft (placed_connections l.scopes l.inside m l.all) l.draft
    (placed_connections l.scopes l.inside m (drop l.given-index l.all))
