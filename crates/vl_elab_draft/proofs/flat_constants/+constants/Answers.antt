use Rattle.std.proofs.Common.{◌≡◌, ◌+◌, [], ◌∷◌, ◌++◌, arith}
use Rattle.std.specs.Prelude.{drop}
use Rattle.std.proofs.lemmas.Grind.{common_steps}
use Rattle.vl_tree.specs.Expr.{Selects, exprs}
use Rattle.vl_tree.specs.ExprView.{with_select}
use Rattle.vl_mean.specs.Params.{constant}
use Rattle.vl_mean.specs.Scopes.{constant_in}
use Rattle.vl_elab_scope.specs.Texts.{texts, exprs_texts, selects_texts}
use Rattle.vl_elab_draft.proofs.Filling.{then_filled, three_filled, one_selected, two_selected}
use Rattle.vl_elab_draft.proofs.Filling.{exprs_on, exprs_end, selects_on, selects_end}
use Rattle.vl_elab_draft.proofs.flat_constants.+constants.Goals as goal

pub add_parts_constants-loop-part-preserved : goal.add_parts_constants-loop-part-preserved
add_parts_constants-loop-part-preserved t c =
    let front : drop c.loop-part.part-index c.args.all.now ≡ c.part-item.result
    ∷ drop (c.loop-part.part-index + 1) c.args.all.now = grind (arith, common_steps) in
    exprs_on (constant_in c.args.scopes.now) _ _ (constant c.args.params.now) c.args.all.now c.part-item.result
    c.loop-part.part-index front c.in_ok-add_constants.ensures c.loop-part.invariant

pub add_parts_constants-returns : goal.add_parts_constants-returns
add_parts_constants-returns t c =
    let gone : drop c.loop-part.part-index c.args.all.now ≡ [] = grind (arith, common_steps) in
    exprs_end (constant_in c.args.scopes.now) _
    (constant c.args.params.now) c.args.all.now c.loop-part.part-index gone
    c.loop-part.invariant

pub add_selects_constants-loop-select-preserved : goal.add_selects_constants-loop-select-preserved
add_selects_constants-loop-select-preserved t c =
    let front : drop c.loop-select.select-index c.args.all.now ≡ c.select-item.result
    ∷ drop (c.loop-select.select-index + 1) c.args.all.now = grind (arith, common_steps) in
    selects_on (constant_in c.args.scopes.now) _ _ (constant c.args.params.now) c.args.all.now c.select-item.result
    c.loop-select.select-index front c.in_ok-add_select_constants.ensures c.loop-select.invariant

pub add_selects_constants-returns : goal.add_selects_constants-returns
add_selects_constants-returns t c =
    let gone : drop c.loop-select.select-index c.args.all.now ≡ [] = grind (arith, common_steps) in
    selects_end (constant_in c.args.scopes.now) _ (constant c.args.params.now) c.args.all.now
    c.loop-select.select-index gone c.loop-select.invariant

pub add_constants-returns-in_ok-add_constants-in-Binary : goal.add_constants-returns-in_ok-add_constants-in-Binary
add_constants-returns-in_ok-add_constants-in-Binary t c =
    let parts : texts c.args.expr.now ≡ texts c.deref.result.now ++ texts c.deref-in-Binary.result.now
    = grind (arith, common_steps) in
    then_filled (constant_in c.args.scopes.now) c.add_constants-in-Binary.result (constant c.args.params.now)
    (constant c.add_constants.new.params) (constant c.add_constants-in-Binary.new.params) (texts c.args.expr.now)
    (texts c.deref.result.now)
    (texts c.deref-in-Binary.result.now) parts c.in_ok-add_constants-in-Binary.ensures
    c.add_constants-in-Binary.ensures

pub add_constants-returns-in_ok-add_constants-in-Conditional-2 :
    goal.add_constants-returns-in_ok-add_constants-in-Conditional-2
add_constants-returns-in_ok-add_constants-in-Conditional-2 t c =
    let parts : texts c.args.expr.now ≡ texts c.deref-in-Conditional.result.now
    ++ (texts c.deref-in-Conditional-2.result.now ++ texts c.deref-in-Conditional-3.result.now)
    = grind (arith, common_steps) in
    three_filled (constant_in c.args.scopes.now) c.add_constants-in-Conditional-3.result
    (constant c.args.params.now)
    (constant c.add_constants-in-Conditional.new.params) (constant c.add_constants-in-Conditional-2.new.params)
    (constant c.add_constants-in-Conditional-3.new.params) (texts c.args.expr.now)
    (texts c.deref-in-Conditional.result.now) (texts c.deref-in-Conditional-2.result.now)
    (texts c.deref-in-Conditional-3.result.now) parts c.in_ok-add_constants-in-Conditional.ensures
    c.in_ok-add_constants-in-Conditional-2.ensures
    c.add_constants-in-Conditional-3.ensures

pub add_constants-returns-in_ok-add_constants-in-Repeat : goal.add_constants-returns-in_ok-add_constants-in-Repeat
add_constants-returns-in_ok-add_constants-in-Repeat t c =
    let parts : texts c.args.expr.now ≡ texts c.deref-in-Repeat.result.now
    ++ exprs_texts (exprs c.as_slice-in-Repeat.result.now) = grind (arith, common_steps) in
    then_filled (constant_in c.args.scopes.now) c.add_parts_constants-in-Repeat.result (constant c.args.params.now)
    (constant c.add_constants-in-Repeat.new.params) (constant c.add_parts_constants-in-Repeat.new.params)
    (texts c.args.expr.now) (texts c.deref-in-Repeat.result.now) (exprs_texts
    (exprs c.as_slice-in-Repeat.result.now))
    parts c.in_ok-add_constants-in-Repeat.ensures c.add_parts_constants-in-Repeat.ensures

pub add_select_constants-returns-in-Bit : goal.add_select_constants-returns-in-Bit
add_select_constants-returns-in-Bit t c =
    let parts : (rest : Selects) → selects_texts (with_select c.args.select.now rest)
    ≡ texts c.deref.result.now ++ selects_texts rest = λ rest. grind (arith, common_steps) in
    one_selected (constant_in c.args.scopes.now) c.add_constants.result (constant c.args.params.now)
    (constant c.add_constants.new.params) c.args.select.now (texts c.deref.result.now) parts c.add_constants.ensures

pub add_select_constants-returns-in_ok-add_constants-in-Part :
    goal.add_select_constants-returns-in_ok-add_constants-in-Part
add_select_constants-returns-in_ok-add_constants-in-Part t c =
    let parts : (rest : Selects) → selects_texts (with_select c.args.select.now rest)
    ≡ texts c.deref-in-Part.result.now ++ (texts c.deref-in-Part-2.result.now ++ selects_texts rest)
    = λ rest. grind (arith, common_steps) in
    two_selected (constant_in c.args.scopes.now) c.add_constants-in-Part-2.result (constant c.args.params.now)
    (constant c.add_constants-in-Part.new.params) (constant c.add_constants-in-Part-2.new.params) c.args.select.now
    (texts c.deref-in-Part.result.now)
    (texts c.deref-in-Part-2.result.now) parts c.in_ok-add_constants-in-Part.ensures
    c.add_constants-in-Part-2.ensures
