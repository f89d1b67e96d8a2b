use Rattle.std.proofs.Common.{◌≡◌, ◌∙◌, ap, List, ℕ}
use Rattle.std.specs.Option.{option_copied}
use Rattle.std.proofs.lemmas.Result.{IfOk-weaker}
use Rattle.vl_mean.specs.Walk.{Place, Use}
use Rattle.vl_elab_spec.specs.Items.{inner_meanings, override_refusals}
use Rattle.vl_elab_spec.specs.Meanings.{meanings_at}
use Rattle.vl_elab_spec.specs.Refused.{lowest}
use Rattle.vl_elab_scope.specs.Alike.{Alike}
use Rattle.vl_elab_names.specs.Known.{AreNames}
use Rattle.vl_elab_check_item.specs.ItemParts.{override_parts}
use Rattle.vl_elab_check_instance.proofs.Joins.{override_alike}
use Rattle.vl_elab_check_instance.proofs.overrides.override_step_fault.Goals as goal

pub returns : goal.returns
returns c =
    let ns = c.args.names.now in
    let ins = c.args.inner.now in
    let m = c.args.module.now in
    let x = c.args.given.now in
    let set = c.args.earlier.now in
    IfOk-weaker c.override_fault.result
    (λ g. g ≡ lowest (override_parts ns ins c.contains-is_twice.result
    (option_copied c.find-parameter.result) x))
    (λ g. (at : Place) (u : Use) (before : List (List ℕ)) → Alike ns (meanings_at at)
    → Alike ins (inner_meanings m u) → AreNames set before → g ≡ lowest (override_refusals at m u before x))
    (λ g h at u before same inner names. h ∙ ap lowest (override_alike ns (meanings_at at) ins (inner_meanings m u)
    same inner _ _ _ _ x (c.contains-is_twice.ensures ∙ names x.port) c.find-parameter.ensures))
    c.override_fault.ensures
