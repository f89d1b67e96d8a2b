use Rattle.std.proofs.Common.{◌≡◌, ℕ, List, None}
use Rattle.std.specs.Prelude.{drop}
use Rattle.vl_elab_scope.specs.Texts.{or_else}
use Rattle.vl_elab_check_instance.specs.Ports.{direction_in, direction_behind}
use Rattle.vl_elab_check_instance.proofs.ports.PortTable.of.Given as goal

abbrev pub invariant-loop-port : goal.invariant-loop-port
invariant-loop-port l =
    (other : List ℕ)
    → or_else (direction_in l.table other) (direction_behind l.last (drop l.port-index l.all) other)
    ≡ direction_behind None l.all other
