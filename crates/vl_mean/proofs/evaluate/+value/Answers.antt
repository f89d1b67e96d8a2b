use Rattle.std.proofs.Common.{rules, ◌≡◌, ◌-◌, ◌∷◌, drop, ap, sym, ◌∙◌, arith, Some, None}
use Rattle.std.proofs.lemmas.Grind.{common_steps}
use Rattle.std.specs.Option.{option_map}
use Rattle.vl_tree.specs.Expr.{exprs}
use Rattle.vl_tree.specs.ExprView.{selects}
use Rattle.vl_size.specs.Size.{sizes, some_bits, vector_value, word_value}
use Rattle.vl_mean.specs.Env.{cells_of}
use Rattle.vl_mean.proofs.Joined.{none_from, none_at, sizes_at, two_values, three_values, of_vector, of_memory}
use Rattle.vl_mean.proofs.evaluate.+value.Goals as goal

pub joined-returns-in_err-more-clause-sizes : goal.joined-returns-in_err-more-clause-sizes
joined-returns-in_err-more-clause-sizes t c =
    let front : drop (c.loop-place.place - 1) c.args.all.now ≡ c.index-all-place.result
    ∷ drop c.loop-place.place c.args.all.now = grind (arith, common_steps) in
    let gone = none_at c.args.env.now.decls c.args.all.now _ _ _ front (sym c.in_err-more.ensures.value) in
    let left : c.from_residual.result ≡ None = search rules in
    ap (option_map (λ own. own.width)) left ∙ sym (ap some_bits gone)

pub joined-returns-in_err-longer-clause-sizes : goal.joined-returns-in_err-longer-clause-sizes
joined-returns-in_err-longer-clause-sizes t c =
    let front : drop (c.loop-place.place - 1) c.args.all.now ≡ c.index-all-place.result
    ∷ drop c.loop-place.place c.args.all.now = grind (arith, common_steps) in
    let gone = none_from c.args.env.now.decls c.args.all.now (c.loop-place.place - 1)
    (sizes_at c.args.env.now.decls c.args.all.now _ _ _ _ _ _ front
    (sym c.in_ok-more.ensures.value) c.loop-place.invariant.3 (sym c.in_err-longer.ensures.value)) in
    let left : c.from_residual-in_err-longer.result ≡ None = search rules in
    ap (option_map (λ own. own.width)) left ∙ sym (ap some_bits gone)

pub joined-returns-in_err-width-clause-sizes : goal.joined-returns-in_err-width-clause-sizes
joined-returns-in_err-width-clause-sizes t c =
    let first : drop c.loop-place.place c.args.all.now ≡ c.args.all.now = grind (arith, common_steps) in
    let all : sizes c.args.env.now.decls (exprs c.args.all.now) ≡ Some c.loop-place.width =
    ap (λ es. sizes c.args.env.now.decls (exprs es)) (sym first) ∙ c.loop-place.invariant.3 in
    let left : c.from_residual-in_err-width.result ≡ None = search rules in
    ap (option_map (λ own. own.width)) left ∙ c.in_err-width.ensures.value ∙ ap some_bits (sym all)

pub joined-returns-clause-sizes : goal.joined-returns-clause-sizes
joined-returns-clause-sizes t c =
    let first : drop c.loop-place.place c.args.all.now ≡ c.args.all.now = grind (arith, common_steps) in
    let all : sizes c.args.env.now.decls (exprs c.args.all.now) ≡ Some c.loop-place.width =
    ap (λ es. sizes c.args.env.now.decls (exprs es)) (sym first) ∙ c.loop-place.invariant.3 in
    c.in_ok-width.ensures.value ∙ ap some_bits (sym all)

pub name_value-returns-in-len2-up-clause-value : goal.name_value-returns-in-len2-up-clause-value
name_value-returns-in-len2-up-clause-value t c =
    let ds = c.args.env.now.decls in let v = cells_of c.args.env.now in
    of_vector c.args.decl.now.words c.is_none.result _
    (word_value ds v c.args.width c.args.signed c.args.decl.now (selects c.args.all.now))
    c.is_none.ensures c.if-is_none.true
    (two_values ds v c.args.width c.args.signed c.args.decl.now
    (v c.args.decl.now.name None) c.args.all.now c.in-len2-up.len_at_least)

pub name_value-returns-in-Bit-3-clause-value : goal.name_value-returns-in-Bit-3-clause-value
name_value-returns-in-Bit-3-clause-value t c =
    let ds = c.args.env.now.decls in
    let v = cells_of c.args.env.now in
    of_memory c.args.decl.now.words c.is_none.result
    (vector_value ds v c.args.width c.args.signed c.args.decl.now (v c.args.decl.now.name None)
    (selects c.args.all.now)) _ c.is_none.ensures
    c.if-is_none.false (three_values ds v c.args.width c.args.signed c.args.decl.now c.args.all.now
    c.in-Bit-3.len_at_least)
