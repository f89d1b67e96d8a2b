use Rattle.std.specs.Prelude.{refl, true, false, ◌&&◌}
use Rattle.std.proofs.Common.{◌≡◌, ◌+◌, ◌∷◌, [], drop, ap, sym, ◌∙◌, subst, arith, rules, Some}
use Rattle.std.proofs.lemmas.Grind.{common_steps}
use Rattle.vl_tree.specs.Expr.{binary, cast, concat, conditional, exprs, name, number, paren, repeat, unary, whole}
use Rattle.vl_tree.specs.ExprView.{selects, shown, with_select}
use Rattle.vl_size.specs.Size.{are_constant, size}
use Rattle.vl_flow_spec.specs.Weight.{parts_weight, selects_weight}
use Rattle.vl_flow_weight.specs.declared.weighed.Weighed.{Weighed}
use Rattle.vl_flow_weight.specs.Weighing.{IsWeightOf}
use Rattle.vl_flow_weight.specs.Shares.{ArePartsOf}
use Rattle.vl_flow_weight.proofs.Adding.{Sums, sum_begun, sum_done, sum_more}
use Rattle.vl_flow_weight.proofs.Expressions.{AccessOf, IndexOf, IndicesOf, and_true}
use Rattle.vl_flow_weight.proofs.Expressions.{cast_weighs, concat_weighs, index_weighs, name_weighs, number_weighs}
use Rattle.vl_flow_weight.proofs.Expressions.{paren_weighs, part_added, part_constant, repeat_weighs, select_first}
use Rattle.vl_flow_weight.proofs.expr.+weigh.Goals as goal

pub weigh-returns-in-Number : goal.weigh-returns-in-Number
weigh-returns-in-Number t c =
    let ds = c.args.decls.now in
    let p = c.expr.inside.pos in
    let n = c.in-Number.number in
    let made : Weighed = record { size = Some n.width; is_constant = true; gates = c.fixed.result } in
    let same : number p n ≡ c.args.expr.now = ap (shown p) (sym c.in-Number.is) ∙ c.expr.view_is in
    subst (λ e. IsWeightOf ds e made) same (number_weighs ds p made n refl refl c.fixed.ensures)

pub weigh-returns-in-Name : goal.weigh-returns-in-Name
weigh-returns-in-Name t c =
    let ds = c.args.decls.now in
    let p = c.expr.inside.pos in
    let text = c.in-Name.text in
    let ss = c.in-Name.all in
    let made : Weighed = record { size = c.self_size-size.result; is_constant = false; gates = c.fixed-in-Name.result } in
    let one : c.as_slice.result.now ≡ ss = search rules in
    let other : c.as_slice-in-Name.result.now ≡ ss = search rules in
    let same : name p text (selects ss) ≡ c.args.expr.now = ap (shown p) (sym c.in-Name.is) ∙ c.expr.view_is in
    let access = subst (λ xs. AccessOf ds text xs c.access_weight-access.result) one c.access_weight-access.ensures in
    let indices = subst (λ xs. IndicesOf ds xs c.indices_weight-indices.result) other
    c.indices_weight-indices.ensures in
    subst (λ e. IsWeightOf ds e made) same
    (name_weighs ds p made text (selects ss) c.access_weight-access.result c.indices_weight-indices.result c.plus.result
    (c.self_size-size.ensures.value ∙ ap (size ds) (sym same)) refl access indices c.plus.ensures
    c.fixed-in-Name.ensures)

pub weigh-returns-in-Paren : goal.weigh-returns-in-Paren
weigh-returns-in-Paren t c =
    let ds = c.args.decls.now in
    let p = c.expr.inside.pos in
    let x = c.in-Paren.inner.value in
    let inner : c.deref.result.now ≡ x = search rules in
    let same : paren p x ≡ c.args.expr.now = ap (shown p) (sym c.in-Paren.is) ∙ c.expr.view_is in
    subst (λ e. IsWeightOf ds e c.weigh.result) same
    (paren_weighs ds p c.weigh.result x (subst (λ e. IsWeightOf ds e c.weigh.result) inner c.weigh.ensures))

pub weigh-returns-in-Unary : goal.weigh-returns-in-Unary
weigh-returns-in-Unary t c =
    let ds = c.args.decls.now in
    let p = c.expr.inside.pos in
    let x = c.in-Unary.operand.value in
    let made = c.unary.result in
    let inner : c.deref-in-Unary.result.now ≡ x = search rules in
    let same : unary p c.in-Unary.operator x ≡ c.args.expr.now = ap (shown p) (sym c.in-Unary.is) ∙ c.expr.view_is in
    subst (λ e. IsWeightOf ds e made) same
    (c.unary.ensures ds p x (subst (λ e. IsWeightOf ds e c.weigh-in-Unary.result) inner c.weigh-in-Unary.ensures))

pub weigh-returns-in-Binary : goal.weigh-returns-in-Binary
weigh-returns-in-Binary t c =
    let ds = c.args.decls.now in
    let p = c.expr.inside.pos in
    let x = c.in-Binary.left.value in
    let y = c.in-Binary.right.value in
    let made = c.binary.result in
    let left : c.deref-in-Binary.result.now ≡ x = search rules in
    let right : c.deref-in-Binary-2.result.now ≡ y = search rules in
    let same : binary p c.in-Binary.operator x y ≡ c.args.expr.now =
    ap (shown p) (sym c.in-Binary.is) ∙ c.expr.view_is in
    subst (λ e. IsWeightOf ds e made) same
    (c.binary.ensures ds p x y (subst (λ e. IsWeightOf ds e c.weigh-in-Binary.result) left c.weigh-in-Binary.ensures)
    (subst (λ e. IsWeightOf ds e c.weigh-in-Binary-2.result) right c.weigh-in-Binary-2.ensures))

pub weigh-returns-in-Conditional : goal.weigh-returns-in-Conditional
weigh-returns-in-Conditional t c =
    let ds = c.args.decls.now in
    let p = c.expr.inside.pos in
    let w = c.in-Conditional.condition.value in
    let x = c.in-Conditional.first.value in
    let y = c.in-Conditional.second.value in
    let made = c.conditional.result in
    let condition : c.deref-in-Conditional.result.now ≡ w = search rules in
    let first : c.deref-in-Conditional-2.result.now ≡ x = search rules in
    let second : c.deref-in-Conditional-3.result.now ≡ y = search rules in
    let same : conditional p w x y ≡ c.args.expr.now = ap (shown p) (sym c.in-Conditional.is) ∙ c.expr.view_is in
    subst (λ e. IsWeightOf ds e made) same
    (c.conditional.ensures ds p w x y
    (subst (λ e. IsWeightOf ds e c.weigh-in-Conditional.result) condition c.weigh-in-Conditional.ensures)
    (subst (λ e. IsWeightOf ds e c.weigh-in-Conditional-2.result) first c.weigh-in-Conditional-2.ensures)
    (subst (λ e. IsWeightOf ds e c.weigh-in-Conditional-3.result) second c.weigh-in-Conditional-3.ensures))

pub weigh-returns-in-Concat : goal.weigh-returns-in-Concat
weigh-returns-in-Concat t c =
    let ds = c.args.decls.now in
    let p = c.expr.inside.pos in
    let es = c.in-Concat.parts in
    let parts = c.weigh_parts-parts.result in
    let made : Weighed = record {
      size = c.self_size-size-in-Concat.result;
      is_constant = parts.are_constant;
      gates = c.fixed-in-Concat.result;
    } in
    let slice : c.as_slice-in-Concat.result.now ≡ es = search rules in
    let same : concat p (exprs es) ≡ c.args.expr.now = ap (shown p) (sym c.in-Concat.is) ∙ c.expr.view_is in
    subst (λ e. IsWeightOf ds e made) same
    (concat_weighs ds p made (exprs es) parts (c.self_size-size-in-Concat.ensures.value ∙ ap (size ds) (sym same)) refl
    c.fixed-in-Concat.ensures (subst (λ xs. ArePartsOf ds (exprs xs) parts) slice c.weigh_parts-parts.ensures))

pub weigh-returns-in-Repeat : goal.weigh-returns-in-Repeat
weigh-returns-in-Repeat t c =
    let ds = c.args.decls.now in
    let p = c.expr.inside.pos in
    let x = c.in-Repeat.count.value in
    let es = c.in-Repeat.parts in
    let count = c.weigh-count.result in
    let parts = c.weigh_parts-parts-in-Repeat.result in
    let made : Weighed = record {
      size = c.self_size-size-in-Repeat.result;
      is_constant = c.both.result;
      gates = c.fixed-in-Repeat.result;
    } in
    let inner : c.deref-in-Repeat.result.now ≡ x = search rules in
    let slice : c.as_slice-in-Repeat.result.now ≡ es = search rules in
    let same : repeat p x (exprs es) ≡ c.args.expr.now = ap (shown p) (sym c.in-Repeat.is) ∙ c.expr.view_is in
    subst (λ e. IsWeightOf ds e made) same
    (repeat_weighs ds p made x (exprs es) count parts (c.self_size-size-in-Repeat.ensures.value ∙ ap (size ds) (sym same))
    c.both.ensures c.fixed-in-Repeat.ensures (subst (λ e. IsWeightOf ds e count) inner c.weigh-count.ensures)
    (subst (λ xs. ArePartsOf ds (exprs xs) parts) slice c.weigh_parts-parts-in-Repeat.ensures))

pub weigh-returns-in-Cast : goal.weigh-returns-in-Cast
weigh-returns-in-Cast t c =
    let ds = c.args.decls.now in
    let p = c.expr.inside.pos in
    let x = c.in-Cast.operand.value in
    let o = c.weigh-operand.result in
    let made : Weighed = record { size = o.size; is_constant = o.is_constant; gates = c.fixed-in-Cast.result } in
    let inner : c.deref-in-Cast.result.now ≡ x = search rules in
    let same : cast p c.in-Cast.field-0 x ≡ c.args.expr.now = ap (shown p) (sym c.in-Cast.is) ∙ c.expr.view_is in
    subst (λ e. IsWeightOf ds e made) same
    (cast_weighs ds p made c.in-Cast.field-0 x o c.own.result refl refl c.own.ensures c.fixed-in-Cast.ensures
    (subst (λ e. IsWeightOf ds e o) inner c.weigh-operand.ensures))

pub weigh_parts-loop-part-init : goal.weigh_parts-loop-part-init
weigh_parts-loop-part-init t c = record {
  total = sum_begun (parts_weight c.args.decls.now (exprs c.args.all.now));
  constant = refl;
}

pub weigh_parts-loop-part-preserved : goal.weigh_parts-loop-part-preserved
weigh_parts-loop-part-preserved t c =
    let ds = c.args.decls.now in
    let xs = c.args.all.now in
    let i = c.loop-part.part-index in
    let e = c.part-item.result in
    let rest = exprs (drop (i + 1) xs) in
    let all = parts_weight ds (exprs xs) in
    let front : drop i xs ≡ e ∷ drop (i + 1) xs = grind (arith, common_steps) in record {
      total = part_added ds e rest c.weigh-weighed.result c.own.result c.loop-part.weight c.plus-weight.result all
          c.weigh-weighed.ensures c.own.ensures c.plus-weight.ensures
          (subst (λ es. Sums c.loop-part.weight (parts_weight ds (exprs es)) all) front c.loop-part.invariant.total);
      constant = part_constant ds e rest c.weigh-weighed.result c.loop-part.are_constant c.both-are_constant.result
          (are_constant (exprs xs)) c.weigh-weighed.ensures c.both-are_constant.ensures
          (ap (λ es. c.loop-part.are_constant && are_constant (exprs es)) (sym front) ∙ c.loop-part.invariant.constant);
    }

pub weigh_parts-returns : goal.weigh_parts-returns
weigh_parts-returns t c =
    let ds = c.args.decls.now in
    let xs = c.args.all.now in
    let i = c.loop-part.part-index in
    let all = parts_weight ds (exprs xs) in
    let gone : drop i xs ≡ [] = grind (arith, common_steps) in record {
      weight_is = sum_done c.loop-part.weight all
          (subst (λ es. Sums c.loop-part.weight (parts_weight ds (exprs es)) all) gone c.loop-part.invariant.total);
      constant_is = and_true c.loop-part.are_constant
          ∙ ap (λ es. c.loop-part.are_constant && are_constant (exprs es)) (sym gone) ∙ c.loop-part.invariant.constant;
    }

pub indices_weight-loop-select-init : goal.indices_weight-loop-select-init
indices_weight-loop-select-init t c = sum_begun (selects_weight c.args.decls.now (selects c.args.all.now))

pub indices_weight-loop-select-preserved : goal.indices_weight-loop-select-preserved
indices_weight-loop-select-preserved t c =
    let ds = c.args.decls.now in
    let xs = c.args.all.now in
    let i = c.loop-select.select-index in
    let s = c.select-item.result in
    let rest = selects (drop (i + 1) xs) in
    let all = selects_weight ds (selects xs) in
    let front : drop i xs ≡ s ∷ drop (i + 1) xs = grind (arith, common_steps) in
    let left : selects_weight ds (selects (drop i xs))
    ≡ selects_weight ds (with_select s whole) + selects_weight ds rest =
    ap (λ ys. selects_weight ds (selects ys)) front ∙ select_first ds s rest in
    sum_more c.loop-select.weight (selects_weight ds (with_select s whole)) c.index_weight.result c.plus-weight.result
    (selects_weight ds rest) all c.index_weight.ensures c.plus-weight.ensures
    (subst (λ n. Sums c.loop-select.weight n all) left c.loop-select.invariant)

pub indices_weight-returns : goal.indices_weight-returns
indices_weight-returns t c =
    let ds = c.args.decls.now in
    let xs = c.args.all.now in
    let i = c.loop-select.select-index in
    let all = selects_weight ds (selects xs) in
    let gone : drop i xs ≡ [] = grind (arith, common_steps) in
    sum_done c.loop-select.weight all
    (subst (λ ys. Sums c.loop-select.weight (selects_weight ds (selects ys)) all) gone c.loop-select.invariant)

pub index_weight-returns-in-Bit : goal.index_weight-returns-in-Bit
index_weight-returns-in-Bit t c =
    let ds = c.args.decls.now in
    let i = c.in-Bit.index.value in
    let inner : c.deref.result.now ≡ i = search rules in
    subst (λ s. IndexOf ds s c.own.result) (sym c.in-Bit.is)
    (index_weighs ds i c.weigh.result c.own.result (subst (λ e. IsWeightOf ds e c.weigh.result) inner c.weigh.ensures)
    c.own.ensures)

pub index_weight-returns-in-Indexed : goal.index_weight-returns-in-Indexed
index_weight-returns-in-Indexed t c =
    let ds = c.args.decls.now in
    let i = c.in-Indexed.start.value in
    let inner : c.deref-in-Indexed.result.now ≡ i = search rules in
    subst (λ s. IndexOf ds s c.own-in-Indexed.result) (sym c.in-Indexed.is)
    (index_weighs ds i c.weigh-in-Indexed.result c.own-in-Indexed.result
    (subst (λ e. IsWeightOf ds e c.weigh-in-Indexed.result) inner c.weigh-in-Indexed.ensures) c.own-in-Indexed.ensures)
