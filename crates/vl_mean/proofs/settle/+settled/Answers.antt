use Rattle.std.proofs.Common.{◌≡◌, ◌+◌, [], ◌∷◌, arith}
use Rattle.std.specs.Prelude.{drop}
use Rattle.std.proofs.lemmas.Grind.{common_steps}
use Rattle.vl_mean.specs.Params.{constant}
use Rattle.vl_mean.proofs.Making.{settled_on, settled_end, selects_on, selects_end}
use Rattle.vl_mean.proofs.settle.+settled.Goals as goal

pub settled_parts-loop-part-preserved : goal.settled_parts-loop-part-preserved
settled_parts-loop-part-preserved t c =
    let front : drop c.loop-part.part-index c.args.all.now ≡ c.part-item.result
    ∷ drop (c.loop-part.part-index + 1) c.args.all.now = grind (arith, common_steps) in
    settled_on (constant c.args.params.now) _ _ c.args.all.now _ _ c.loop-part.part-index _ front
    c.in_ok-push.ensures.ok c.in_ok-settled.ensures
    c.loop-part.invariant

pub settled_parts-returns : goal.settled_parts-returns
settled_parts-returns t c =
    let gone : drop c.loop-part.part-index c.args.all.now ≡ [] = grind (arith, common_steps) in
    settled_end (constant c.args.params.now) _ c.args.all.now c.loop-part.part-index _ gone c.loop-part.invariant

pub settled_selects-loop-select-preserved : goal.settled_selects-loop-select-preserved
settled_selects-loop-select-preserved t c =
    let front : drop c.loop-select.select-index c.args.all.now ≡ c.select-item.result
    ∷ drop (c.loop-select.select-index + 1) c.args.all.now = grind (arith, common_steps) in
    selects_on (constant c.args.params.now) _ _ c.args.all.now _ _ c.loop-select.select-index _ front
    c.in_ok-push.ensures.ok
    c.in_ok-settled_select.ensures c.loop-select.invariant

pub settled_selects-returns : goal.settled_selects-returns
settled_selects-returns t c =
    let gone : drop c.loop-select.select-index c.args.all.now ≡ [] = grind (arith, common_steps) in
    selects_end (constant c.args.params.now) _ c.args.all.now c.loop-select.select-index _ gone c.loop-select.invariant
