use Rattle.std.proofs.Common.{◌≡◌, ◌+◌, [], ◌∷◌, arith}
use Rattle.std.specs.Prelude.{drop}
use Rattle.std.proofs.lemmas.Grind.{common_steps}
use Rattle.vl_tree.specs.ExprView.{selects}
use Rattle.vl_mean.specs.Constants.{settled_selects}
use Rattle.vl_mean.proofs.Making.{settled_on, settled_end, selects_on, selects_end}
use Rattle.vl_elab_spec.specs.Meanings.{constants}
use Rattle.vl_elab_scope.proofs.Meant.{selected_known}
use Rattle.vl_elab_scope.proofs.settle.+known.Goals as goal

pub known_parts-loop-part-preserved : goal.known_parts-loop-part-preserved
known_parts-loop-part-preserved t c =
    let front : drop c.loop-part.part-index c.args.all.now ≡ c.part-item.result
    ∷ drop (c.loop-part.part-index + 1) c.args.all.now = grind (arith, common_steps) in
    settled_on (constants c.args.names.now) _ _ c.args.all.now _ _ c.loop-part.part-index _ front
    c.in_ok-push.ensures.ok c.in_ok-known_expr.ensures
    c.loop-part.invariant

pub known_parts-returns : goal.known_parts-returns
known_parts-returns t c =
    let gone : drop c.loop-part.part-index c.args.all.now ≡ [] = grind (arith, common_steps) in
    settled_end (constants c.args.names.now) _ c.args.all.now c.loop-part.part-index _ gone c.loop-part.invariant

pub known_selected-loop-select-preserved : goal.known_selected-loop-select-preserved
known_selected-loop-select-preserved t c =
    let front : drop c.loop-select.select-index c.args.all.now ≡ c.select-item.result
    ∷ drop (c.loop-select.select-index + 1) c.args.all.now = grind (arith, common_steps) in
    selects_on (constants c.args.names.now) _ _ c.args.all.now _ _ c.loop-select.select-index _ front
    c.in_ok-push.ensures.ok
    c.in_ok-known_select.ensures c.loop-select.invariant

pub known_selected-returns : goal.known_selected-returns
known_selected-returns t c =
    let gone : drop c.loop-select.select-index c.args.all.now ≡ [] = grind (arith, common_steps) in
    let cs = constants c.args.names.now in
    selected_known cs c.args.pos c.args.text.now c.in_ok-name.name (selects c.loop-select.parts) (selects c.args.all.now)
    c.requires c.in_ok-name.ensures
    (selects_end cs c.loop-select.parts c.args.all.now c.loop-select.select-index
    (settled_selects cs (selects c.args.all.now)) gone c.loop-select.invariant)
