use Rattle.std.proofs.Common.{◌≡◌, ◌∙◌, ap, sym}
use Rattle.std.specs.Prelude.{drop}
use Rattle.std.proofs.lemmas.Result.{IfOk-weaker}
use Rattle.vl_mean.specs.ConstantFaults.{capped}
use Rattle.vl_mean.specs.Walk.{Place, item}
use Rattle.vl_elab_spec.specs.Counts.{item_pos, step_names, step_nodes}
use Rattle.vl_elab_spec.specs.Meanings.{meanings_at}
use Rattle.vl_elab_spec.specs.Refused.{Totals, large_pos}
use Rattle.vl_elab_spec.specs.Walked.{AreTotals}
use Rattle.vl_elab_scope.specs.Alike.{Alike}
use Rattle.vl_elab_const.specs.Numbers.{HaveNumbers}
use Rattle.vl_elab_places.specs.Judged.{judged_pos}
use Rattle.vl_elab_places.proofs.InnerPlaces.{shown_pos}
use Rattle.vl_elab_places.proofs.Judging.{judged_large, judged_small}
use Rattle.vl_elab_places.proofs.steps.item_place.Goals as goal

pub returns-then-past-clause-place : goal.returns-then-past-clause-place
returns-then-past-clause-place c =
    let x = c.args.item.now in
    let ns = c.args.names.now in
    let numbers = c.args.numbers.now in
    let added = c.args.added in
    let before = c.args.before in
    IfOk-weaker c.large_item.result
    (λ p. (at : Place) (t : Totals) → Alike ns (meanings_at at) → HaveNumbers numbers at.scopes
    → HaveNumbers (drop 1 numbers) at.around → AreTotals before t → p ≡ large_pos t (item at x))
    (λ p. (at : Place) (t : Totals) → Alike ns (meanings_at at) → HaveNumbers numbers at.scopes
    → HaveNumbers (drop 1 numbers) at.around → added.nodes ≡ capped (step_nodes (item at x))
    → added.names ≡ capped (step_names (item at x)) → AreTotals before t → p ≡ judged_pos t (item at x))
    (λ p made at t same agree around nodes names known. judged_large (item at x) t p c.is_past-past.result
    (c.is_past-past.ensures (item at x) t nodes names known) c.if-past.true (made at t same agree around known))
    c.large_item.ensures.place

pub returns-clause-place : goal.returns-clause-place
returns-clause-place c at t same agree around nodes names known =
    let x = c.args.item.now in
    let inside = c.item.inside in
    judged_small (item at x) t inside.pos c.is_past-past.result (c.is_past-past.ensures (item at x) t nodes names known)
    c.if-past.false (sym (shown_pos inside.attributes inside.pos inside.kind) ∙ ap item_pos c.item.view_is)
