use Rattle.std.proofs.Common.{◌≡◌, ◌∙◌, ap, sym, List, ℕ}
use Rattle.std.proofs.lemmas.Result.{IfOk-weaker}
use Rattle.vl_tree.specs.declared.source.Module.{Module}
use Rattle.vl_mean.specs.Declarations.{ports_of, port_named}
use Rattle.vl_mean.specs.Scopes.{is_clock}
use Rattle.vl_mean.specs.Walk.{Place, Use}
use Rattle.vl_elab_spec.specs.Items.{inner_meanings, connection_refusals}
use Rattle.vl_elab_spec.specs.Meanings.{meanings_at}
use Rattle.vl_elab_spec.specs.Refused.{lowest}
use Rattle.vl_elab_scope.specs.Alike.{Alike}
use Rattle.vl_elab_names.specs.Known.{AreNames, contains}
use Rattle.vl_elab_decls.specs.Stands.{Stands}
use Rattle.vl_elab_check_instance.specs.Joined.{connection_parts, port_if}
use Rattle.vl_elab_check_instance.specs.Ports.{AreDirectionsOf, direction_of}
use Rattle.vl_elab_check_instance.proofs.Clocks.{same_clock}
use Rattle.vl_elab_check_instance.proofs.Directions.{ports_are}
use Rattle.vl_elab_check_instance.proofs.Joins.{connection_alike, port_alike}
use Rattle.vl_elab_check_instance.proofs.connections.connection_step_fault.Goals as goal

pub returns : goal.returns
returns c =
    let ns = c.args.names.now in
    let values = c.args.numbers.now in
    let clocks = contains c.args.clocks.now in
    let ins = c.args.inner.now in
    let x = c.args.given.now in
    let set = c.args.earlier.now in
    let table = c.args.ports.now in
    IfOk-weaker c.judge.result
    (λ g. (at : Place) → is_clock at.scopes x.value ≡ c.is_clock-test.result
    → g ≡ lowest (connection_parts at ns ins c.contains-is_twice.result (port_if c.direction-to.result x.port) x))
    (λ g. (at : Place) (m : Module) (u : Use) (before : List (List ℕ)) → AreDirectionsOf table m
    → Stands ns values clocks (meanings_at at) at.scopes → Alike ins (inner_meanings m u) → AreNames set before
    → g ≡ lowest (connection_refusals at m u before x))
    (λ g h at m u before directions stands inner names.
    h at (same_clock ns values clocks (meanings_at at) at.scopes stands x.value ∙ sym c.is_clock-test.ensures)
    ∙ ap lowest (connection_alike ns (meanings_at at) ins (inner_meanings m u) stands.alike inner at x _ _ _ _
    (c.contains-is_twice.ensures ∙ names x.port)
    (port_alike at ns ins x c.direction-to.result (ports_of m.ports)
    (c.direction-to.ensures ∙ directions x.port
    ∙ ap (λ ps. direction_of (port_named ps x.port)) (ports_are m.ports))))) c.judge.ensures
