use Rattle.std.proofs.Common.{◌≡◌, ◌∙◌, ap}
use Rattle.std.proofs.lemmas.Result.{IfOk-weaker}
use Rattle.vl_mean.specs.Walk.{Place}
use Rattle.vl_elab_spec.specs.Items.{port_refusals}
use Rattle.vl_elab_spec.specs.Meanings.{meanings_at}
use Rattle.vl_elab_spec.specs.Refused.{lowest}
use Rattle.vl_elab_scope.specs.Alike.{Alike}
use Rattle.vl_elab_names.specs.Known.{AreNames}
use Rattle.vl_elab_check_item.specs.ItemParts.{port_parts}
use Rattle.vl_elab_check_scope.specs.Short.{renamed}
use Rattle.vl_elab_check_scope.proofs.Known.{port_alike}
use Rattle.vl_elab_check_scope.proofs.ports.port_step_fault.Goals as goal

pub returns : goal.returns
returns c =
    let ns = c.args.names.now in
    let set = c.args.earlier.now in
    let pos = c.args.pos in
    let text = c.args.text.now in
    let q = renamed c.args.full.now text c.args.value.now in
    IfOk-weaker c.judge_port.result (λ g. g ≡ lowest (port_parts ns c.contains.result pos q))
    (λ g. (at : Place) → Alike ns (meanings_at at) → AreNames set at.earlier → g ≡ lowest (port_refusals at pos q))
    (λ g h at same names.
    h ∙ ap lowest (port_alike ns (meanings_at at) same c.contains.result pos q)
    ∙ ap (λ b. lowest (port_parts (meanings_at at) b pos q)) (c.contains.ensures ∙ names text)) c.judge_port.ensures
