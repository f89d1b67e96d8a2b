use Rattle.std.proofs.Common.{◌≡◌, ℕ, ◌+◌, ◌<◌, ◌^◌, List, [], ◌∷◌, drop, ap, sym, ◌∙◌, subst, arith, rules, Some}
use Rattle.std.proofs.Common.{None, true, false}
use Rattle.std.proofs.lemmas.Grind.{common_steps}
use Rattle.std.specs.Option.{option_map}
use Rattle.vl_tree.specs.declared.expr.ExprKind.TheVariants as k
use Rattle.vl_size.specs.Sign.{sign}
use Rattle.vl_tree.specs.Expr.{Expr, unary, binary, exprs}
use Rattle.vl_tree.specs.ExprView.{shown, selects}
use Rattle.vl_size.specs.Size.{no_names, size, value, vector_size, word_size, sizes, concatenated, some_bits}
use Rattle.vl_size.proofs.Rest.{with_rest, with_rest_0, with_rest-end, with_rest-on, with_rest-None, with_rest-stops}
use Rattle.vl_size.proofs.Joined.{Joins, joins_first, joins_end, joins_on}
use Rattle.vl_size.proofs.RowLemmas.{row_at, row_of_0, extended_same}
use Rattle.vl_size.proofs.Ways.{one_size}
use Rattle.vl_size.proofs.Names.{name_0, two_selects, three_selects, of_vector, of_memory}
use Rattle.vl_size.proofs.size.+size.Goals as goal

pub self_size-returns-in-Binary-clause-value : goal.self_size-returns-in-Binary-clause-value
self_size-returns-in-Binary-clause-value t c =
    let left : c.deref-in-Binary.result.now ≡ c.in-Binary.left.value = search rules in
    let right : c.deref-in-Binary-2.result.now ≡ c.in-Binary.right.value = search rules in
    let whole : binary c.expr.inside.pos c.in-Binary.operator c.deref-in-Binary.result.now
    c.deref-in-Binary-2.result.now ≡ c.args.expr.now =
    (λ i. binary c.expr.inside.pos c.in-Binary.operator (left i) (right i))
    ∙ ap (shown c.expr.inside.pos) (sym c.in-Binary.is) ∙ c.expr.view_is in
    c.binary_size.ensures.value c.expr.inside.pos ∙ ap (size c.args.decls.now) whole

pub evaluate-returns-in-Unary-clause-value : goal.evaluate-returns-in-Unary-clause-value
evaluate-returns-in-Unary-clause-value t c =
    let inner : c.deref-in-Unary.result.now ≡ c.in-Unary.operand.value = search rules in
    let whole : unary c.expr.inside.pos c.in-Unary.operator c.deref-in-Unary.result.now ≡ c.args.expr.now =
    (λ i. unary c.expr.inside.pos c.in-Unary.operator (inner i)) ∙ ap (shown c.expr.inside.pos) (sym c.in-Unary.is)
    ∙ c.expr.view_is in
    c.evaluate_unary.ensures.value c.expr.inside.pos ∙ ap (size c.args.decls.now) whole

pub evaluate-returns-in-Unary-clause-unsigned : goal.evaluate-returns-in-Unary-clause-unsigned
evaluate-returns-in-Unary-clause-unsigned t c =
    let inner : c.deref-in-Unary.result.now ≡ c.in-Unary.operand.value = search rules in
    let whole : unary c.expr.inside.pos c.in-Unary.operator c.deref-in-Unary.result.now ≡ c.args.expr.now =
    (λ i. unary c.expr.inside.pos c.in-Unary.operator (inner i)) ∙ ap (shown c.expr.inside.pos) (sym c.in-Unary.is)
    ∙ c.expr.view_is in
    row_at _ _ (λ p w. value c.args.decls.now no_names w false
    (unary p c.in-Unary.operator c.deref-in-Unary.result.now))
    (λ w. value c.args.decls.now no_names w false c.args.expr.now) c.expr.inside.pos
    (λ w. ap (value c.args.decls.now no_names w false) whole)
    c.evaluate_unary.ensures.unsigned

pub evaluate-returns-in-Unary-clause-signed : goal.evaluate-returns-in-Unary-clause-signed
evaluate-returns-in-Unary-clause-signed t c =
    let inner : c.deref-in-Unary.result.now ≡ c.in-Unary.operand.value = search rules in
    let whole : unary c.expr.inside.pos c.in-Unary.operator c.deref-in-Unary.result.now ≡ c.args.expr.now =
    (λ i. unary c.expr.inside.pos c.in-Unary.operator (inner i)) ∙ ap (shown c.expr.inside.pos) (sym c.in-Unary.is)
    ∙ c.expr.view_is in
    row_at _ _ (λ p w. value c.args.decls.now no_names w true (unary p c.in-Unary.operator c.deref-in-Unary.result.now))
    (λ w. value c.args.decls.now no_names w true c.args.expr.now) c.expr.inside.pos
    (λ w. ap (value c.args.decls.now no_names w true) whole)
    c.evaluate_unary.ensures.signed

pub evaluate-returns-in-Binary-clause-value : goal.evaluate-returns-in-Binary-clause-value
evaluate-returns-in-Binary-clause-value t c =
    let left : c.deref-in-Binary.result.now ≡ c.in-Binary.left.value = search rules in
    let right : c.deref-in-Binary-2.result.now ≡ c.in-Binary.right.value = search rules in
    let whole : binary c.expr.inside.pos c.in-Binary.operator c.deref-in-Binary.result.now
    c.deref-in-Binary-2.result.now ≡ c.args.expr.now =
    (λ i. binary c.expr.inside.pos c.in-Binary.operator (left i) (right i))
    ∙ ap (shown c.expr.inside.pos) (sym c.in-Binary.is) ∙ c.expr.view_is in
    c.evaluate_binary.ensures.value c.expr.inside.pos ∙ ap (size c.args.decls.now) whole

pub evaluate-returns-in-Binary-clause-unsigned : goal.evaluate-returns-in-Binary-clause-unsigned
evaluate-returns-in-Binary-clause-unsigned t c =
    let left : c.deref-in-Binary.result.now ≡ c.in-Binary.left.value = search rules in
    let right : c.deref-in-Binary-2.result.now ≡ c.in-Binary.right.value = search rules in
    let whole : binary c.expr.inside.pos c.in-Binary.operator c.deref-in-Binary.result.now
    c.deref-in-Binary-2.result.now ≡ c.args.expr.now =
    (λ i. binary c.expr.inside.pos c.in-Binary.operator (left i) (right i))
    ∙ ap (shown c.expr.inside.pos) (sym c.in-Binary.is) ∙ c.expr.view_is in
    row_at _ _ (λ p w. value c.args.decls.now no_names w false
    (binary p c.in-Binary.operator c.deref-in-Binary.result.now c.deref-in-Binary-2.result.now))
    (λ w. value c.args.decls.now no_names w false c.args.expr.now) c.expr.inside.pos
    (λ w. ap (value c.args.decls.now no_names w false) whole)
    c.evaluate_binary.ensures.unsigned

pub evaluate-returns-in-Binary-clause-signed : goal.evaluate-returns-in-Binary-clause-signed
evaluate-returns-in-Binary-clause-signed t c =
    let left : c.deref-in-Binary.result.now ≡ c.in-Binary.left.value = search rules in
    let right : c.deref-in-Binary-2.result.now ≡ c.in-Binary.right.value = search rules in
    let whole : binary c.expr.inside.pos c.in-Binary.operator c.deref-in-Binary.result.now
    c.deref-in-Binary-2.result.now ≡ c.args.expr.now =
    (λ i. binary c.expr.inside.pos c.in-Binary.operator (left i) (right i))
    ∙ ap (shown c.expr.inside.pos) (sym c.in-Binary.is) ∙ c.expr.view_is in
    row_at _ _ (λ p w. value c.args.decls.now no_names w true
    (binary p c.in-Binary.operator c.deref-in-Binary.result.now c.deref-in-Binary-2.result.now))
    (λ w. value c.args.decls.now no_names w true c.args.expr.now) c.expr.inside.pos
    (λ w. ap (value c.args.decls.now no_names w true) whole)
    c.evaluate_binary.ensures.signed

pub evaluate-returns-in_ok-decl-in-Name-clause-unsigned : goal.evaluate-returns-in_ok-decl-in-Name-clause-unsigned
evaluate-returns-in_ok-decl-in-Name-clause-unsigned t c =
    row_of_0 _ _ (λ w. value c.args.decls.now no_names w false c.args.expr.now)
    (λ w. sym (name_0 c.args.decls.now w false c.expr.inside.pos c.in-Name.text (selects c.in-Name.all))
    ∙ ap (value c.args.decls.now no_names w false) (ap (shown c.expr.inside.pos) (sym c.in-Name.is) ∙ c.expr.view_is))
    c.clear.ensures.unsigned

pub evaluate-returns-in_ok-decl-in-Name-clause-signed : goal.evaluate-returns-in_ok-decl-in-Name-clause-signed
evaluate-returns-in_ok-decl-in-Name-clause-signed t c =
    row_of_0 _ _ (λ w. value c.args.decls.now no_names w true c.args.expr.now)
    (λ w. sym (name_0 c.args.decls.now w true c.expr.inside.pos c.in-Name.text (selects c.in-Name.all))
    ∙ ap (value c.args.decls.now no_names w true) (ap (shown c.expr.inside.pos) (sym c.in-Name.is) ∙ c.expr.view_is))
    c.clear.ensures.signed

pub evaluate_binary-returns-in_err-tested-in-One-clause-value :
    goal.evaluate_binary-returns-in_err-tested-in-One-clause-value
evaluate_binary-returns-in_err-tested-in-One-clause-value t c p =
    let left : c.from_residual-in_err-tested-in-One.result ≡ None = search rules in
    left ∙ c.in_err-tested-in-One.ensures.sized
    ∙ one_size c.args.decls.now p c.args.operator c.args.left.now c.args.right.now
    (sym c.way_of.ensures ∙ c.in-One.is)

pub evaluate_binary-returns-in_ok-tested-in-One-clause-value :
    goal.evaluate_binary-returns-in_ok-tested-in-One-clause-value
evaluate_binary-returns-in_ok-tested-in-One-clause-value t c p =
    c.in_ok-tested-in-One.ensures.sized
    ∙ one_size c.args.decls.now p c.args.operator c.args.left.now c.args.right.now
    (sym c.way_of.ensures ∙ c.in-One.is)

pub own-returns-in-Number-clause-number : goal.own-returns-in-Number-clause-number
own-returns-in-Number-clause-number t c =
    let number = c.in-Number.number in
    let whole : shown c.expr.inside.pos (k.Number number)
    ≡ c.args.expr.now = ap (shown c.expr.inside.pos) (sym c.in-Number.is) ∙ c.expr.view_is in
    sym (extended_same number.width number.value number.signed number.value_fits)
    ∙ ap (λ e. value c.args.decls.now no_names number.width (sign c.args.decls.now e) e) whole

pub sizes_of-loop-part-init : goal.sizes_of-loop-part-init
sizes_of-loop-part-init t c = (omega arith, with_rest_0 c.args.decls.now (exprs c.args.all.now))

pub sizes_of-loop-part-preserved : goal.sizes_of-loop-part-preserved
sizes_of-loop-part-preserved t c =
    let front : drop c.loop-part.part-index c.args.all.now ≡ c.part-item.result
    ∷ drop (c.loop-part.part-index + 1) c.args.all.now = grind (arith, common_steps) in (
      c.in_ok-sum.ensures.few.1,
      sym (with_rest-on _ c.loop-part.sum _ c.in_ok-sum.sum _ _ (sym c.in_ok-self_size.ensures.value)
          (sym c.in_ok-sum.ensures.value))
          ∙ ap (λ es. with_rest c.args.decls.now c.loop-part.sum (exprs es)) (sym front) ∙ c.loop-part.invariant.1,
    )

pub sizes_of-returns-clause-value : goal.sizes_of-returns-clause-value
sizes_of-returns-clause-value t c =
    let gone : drop c.loop-part.part-index c.args.all.now ≡ [] = grind (arith, common_steps) in
    sym (ap (λ es. with_rest c.args.decls.now c.loop-part.sum (exprs es)) gone
    ∙ with_rest-end c.args.decls.now c.loop-part.sum) ∙ c.loop-part.invariant.1

pub joined-loop-part-init : goal.joined-loop-part-init
joined-loop-part-init t c = (
  omega arith,
  omega arith,
  with_rest_0 c.args.decls.now (exprs c.args.all.now),
  joins_first c.args.decls.now (sizes c.args.decls.now (exprs c.args.all.now)) (exprs c.args.all.now),
)

pub joined-loop-part-preserved : goal.joined-loop-part-preserved
joined-loop-part-preserved t c =
    let front : drop c.loop-part.part-index c.args.all.now ≡ c.part-item.result
    ∷ drop (c.loop-part.part-index + 1) c.args.all.now = grind (arith, common_steps) in
    let sized = sym c.in_ok-more.ensures.width in
    let rest =
    sym (with_rest-on _ c.loop-part.width _ c.in_ok-longer.longer _ _ sized (sym c.in_ok-longer.ensures.value))
    ∙ ap (λ es. with_rest c.args.decls.now c.loop-part.width (exprs es)) (sym front) ∙ c.loop-part.invariant.2 in
    let P : ℕ → Type 0 = λ n. c.appended-number.result < 2 ^ n in
    let J : List Expr → Type 0 = λ es.
    Joins c.args.decls.now (sizes c.args.decls.now (exprs c.args.all.now)) c.loop-part.number (exprs es)
    (concatenated c.args.decls.now no_names (exprs c.args.all.now)) in
    let N : ℕ → Type 0 = λ n.
    Joins c.args.decls.now (sizes c.args.decls.now (exprs c.args.all.now)) n
    (exprs (drop (c.loop-part.part-index + 1) c.args.all.now))
    (concatenated c.args.decls.now no_names (exprs c.args.all.now)) in (
      c.in_ok-longer.ensures.few.1,
      subst P (sym c.in_ok-longer.ensures.few.0) c.appended-number.ensures.fits,
      rest,
      subst N (sym c.appended-number.ensures.value)
          (joins_on c.args.decls.now (sizes c.args.decls.now
          (exprs c.args.all.now)) c.loop-part.width c.in_ok-more.more.width c.in_ok-longer.longer
          c.loop-part.number c.in_ok-more.more.number
          (concatenated c.args.decls.now no_names (exprs c.args.all.now)) c.part-item.result
          (exprs (drop (c.loop-part.part-index
          + 1) c.args.all.now)) sized c.in_ok-longer.ensures.few.0 c.in_ok-longer.ensures.few.1
          c.in_ok-more.ensures.number rest (subst J front c.loop-part.invariant.3)),
    )

pub joined-returns-in_err-more-clause-sizes : goal.joined-returns-in_err-more-clause-sizes
joined-returns-in_err-more-clause-sizes t c =
    let front : drop c.loop-part.part-index c.args.all.now ≡ c.part-item.result
    ∷ drop (c.loop-part.part-index + 1) c.args.all.now = grind (arith, common_steps) in
    let gone : sizes c.args.decls.now (exprs c.args.all.now) ≡ None =
    sym c.loop-part.invariant.2 ∙ ap (λ es. with_rest c.args.decls.now c.loop-part.width (exprs es)) front
    ∙ with_rest-None _ _ _ _ (sym c.in_err-more.ensures.width) in
    let left : c.from_residual.result ≡ None = search rules in
    ap (option_map (λ own. own.width)) left ∙ sym (ap some_bits gone)

pub joined-returns-in_err-longer-clause-sizes : goal.joined-returns-in_err-longer-clause-sizes
joined-returns-in_err-longer-clause-sizes t c =
    let front : drop c.loop-part.part-index c.args.all.now ≡ c.part-item.result
    ∷ drop (c.loop-part.part-index + 1) c.args.all.now = grind (arith, common_steps) in
    let gone : sizes c.args.decls.now (exprs c.args.all.now) ≡ None =
    sym c.loop-part.invariant.2 ∙ ap (λ es. with_rest c.args.decls.now c.loop-part.width (exprs es)) front
    ∙ with_rest-stops _ _ c.in_ok-more.more.width _ _ (sym c.in_ok-more.ensures.width)
    (sym c.in_err-longer.ensures.value) in
    let left : c.from_residual-in_err-longer.result ≡ None = search rules in
    ap (option_map (λ own. own.width)) left ∙ sym (ap some_bits gone)

pub joined-returns-in_err-width-clause-sizes : goal.joined-returns-in_err-width-clause-sizes
joined-returns-in_err-width-clause-sizes t c =
    let gone : drop c.loop-part.part-index c.args.all.now ≡ [] = grind (arith, common_steps) in
    let all : Some c.loop-part.width ≡ sizes c.args.decls.now (exprs c.args.all.now) =
    sym (ap (λ es. with_rest c.args.decls.now c.loop-part.width (exprs es)) gone
    ∙ with_rest-end c.args.decls.now c.loop-part.width) ∙ c.loop-part.invariant.2 in
    let left : c.from_residual-in_err-width.result ≡ None = search rules in
    ap (option_map (λ own. own.width)) left ∙ c.in_err-width.ensures.value ∙ ap some_bits all

pub joined-returns-clause-sizes : goal.joined-returns-clause-sizes
joined-returns-clause-sizes t c =
    let gone : drop c.loop-part.part-index c.args.all.now ≡ [] = grind (arith, common_steps) in
    let all : Some c.loop-part.width ≡ sizes c.args.decls.now (exprs c.args.all.now) =
    sym (ap (λ es. with_rest c.args.decls.now c.loop-part.width (exprs es)) gone
    ∙ with_rest-end c.args.decls.now c.loop-part.width) ∙ c.loop-part.invariant.2 in
    c.in_ok-width.ensures.value ∙ ap some_bits all

pub joined-returns-clause-value : goal.joined-returns-clause-value
joined-returns-clause-value t c =
    let gone : drop c.loop-part.part-index c.args.all.now ≡ [] = grind (arith, common_steps) in
    let W : List Expr → Type 0 = λ es. with_rest c.args.decls.now c.loop-part.width (exprs es)
    ≡ sizes c.args.decls.now (exprs c.args.all.now) in
    let J : List Expr → Type 0 = λ es.
    Joins c.args.decls.now (sizes c.args.decls.now (exprs c.args.all.now)) c.loop-part.number (exprs es)
    (concatenated c.args.decls.now no_names (exprs c.args.all.now)) in
    joins_end c.args.decls.now (sizes c.args.decls.now (exprs c.args.all.now)) c.loop-part.width c.loop-part.number
    (concatenated c.args.decls.now no_names (exprs c.args.all.now)) (subst W gone c.loop-part.invariant.2)
    (subst J gone c.loop-part.invariant.3)

pub sizes_of-returns-in_err-self_size-clause-value : goal.sizes_of-returns-in_err-self_size-clause-value
sizes_of-returns-in_err-self_size-clause-value t c =
    let front : drop c.loop-part.part-index c.args.all.now ≡ c.part-item.result
    ∷ drop (c.loop-part.part-index + 1) c.args.all.now = grind (arith, common_steps) in
    let left : c.from_residual.result ≡ None = search rules in
    left
    ∙ sym (sym c.loop-part.invariant.1 ∙ ap (λ es. with_rest c.args.decls.now c.loop-part.sum (exprs es)) front
    ∙ with_rest-None _ _ _ _ (sym c.in_err-self_size.ensures.value))

pub sizes_of-returns-in_err-sum-clause-value : goal.sizes_of-returns-in_err-sum-clause-value
sizes_of-returns-in_err-sum-clause-value t c =
    let front : drop c.loop-part.part-index c.args.all.now ≡ c.part-item.result
    ∷ drop (c.loop-part.part-index + 1) c.args.all.now = grind (arith, common_steps) in
    let left : c.from_residual-in_err-sum.result ≡ None = search rules in
    left
    ∙ sym (sym c.loop-part.invariant.1 ∙ ap (λ es. with_rest c.args.decls.now c.loop-part.sum (exprs es)) front
    ∙ with_rest-stops _ _ c.in_ok-self_size.field-0 _ _ (sym c.in_ok-self_size.ensures.value)
    (sym c.in_err-sum.ensures.value))

pub selected_size-returns-in-len2-up-clause-value : goal.selected_size-returns-in-len2-up-clause-value
selected_size-returns-in-len2-up-clause-value t c =
    of_vector c.args.decl.now.words c.is_none.result
    (vector_size c.args.decls.now c.args.decl.now (selects c.args.all.now))
    (word_size c.args.decls.now c.args.decl.now (selects c.args.all.now)) c.is_none.ensures c.if-is_none.true
    (two_selects c.args.decls.now c.args.decl.now c.args.all.now c.in-len2-up.len_at_least)

pub selected_size-returns-in_default-4-clause-value : goal.selected_size-returns-in_default-4-clause-value
selected_size-returns-in_default-4-clause-value t c =
    of_memory c.args.decl.now.words c.is_none.result
    (vector_size c.args.decls.now c.args.decl.now (selects c.args.all.now))
    (word_size c.args.decls.now c.args.decl.now (selects c.args.all.now)) c.is_none.ensures c.if-is_none.false
    (three_selects c.args.decls.now c.args.decl.now c.args.all.now c.in_default.len_at_least)
