use Rattle.std.proofs.Common.{rules, ◌≡◌, ap, sym, ◌∙◌, subst, true}
use Rattle.std.specs.Prelude.{IsSome}
use Rattle.vl_tree.specs.Expr.{whole, bit, part, indexed}
use Rattle.vl_tree.specs.ExprView.{with_select}
use Rattle.vl_size.specs.Size.{vector_size}
use Rattle.vl_mean.specs.FlatLaw.{flat_scopes}
use Rattle.vl_mean.specs.Targets.{are_fixed}
use Rattle.vl_flow_cells.specs.Places.{IsMaskOf}
use Rattle.vl_flow_cells.proofs.mask.select_mask.Goals as goal

pub returns-in-Bit : goal.returns-in-Bit
returns-in-Bit c ds sized fix =
    let inner : c.deref.result.now ≡ c.in-Bit.index.value = search rules in
    let view : bit c.in-Bit.field-0 c.deref.result.now whole ≡ with_select c.args.select.now whole =
    (λ j. bit c.in-Bit.field-0 (inner j) whole) ∙ ap (λ s. with_select s whole) (sym c.in-Bit.is) in
    subst (λ xs. IsMaskOf ds c.args.decl.now xs c.bit_of.result) view
    (c.bit_of.ensures ds c.in-Bit.field-0 (subst (λ xs. are_fixed (flat_scopes ds) xs ≡ true) (sym view) fix))

pub returns-in-Part : goal.returns-in-Part
returns-in-Part c ds sized fix =
    let left : c.deref-in-Part.result.now ≡ c.in-Part.left.value = search rules in
    let right : c.deref-in-Part-2.result.now ≡ c.in-Part.right.value = search rules in
    let view : part c.in-Part.field-0 c.deref-in-Part.result.now c.deref-in-Part-2.result.now whole
    ≡ with_select c.args.select.now whole =
    (λ j. part c.in-Part.field-0 (left j) (right j) whole) ∙ ap (λ s. with_select s whole) (sym c.in-Part.is) in
    subst (λ xs. IsMaskOf ds c.args.decl.now xs c.part_of.result) view
    (c.part_of.ensures ds c.in-Part.field-0
    (subst (λ xs. IsSome (vector_size ds c.args.decl.now xs)) (sym view) sized))

pub returns-in-Indexed : goal.returns-in-Indexed
returns-in-Indexed c ds sized fix =
    let start : c.deref-in-Indexed.result.now ≡ c.in-Indexed.start.value = search rules in
    let count : c.deref-in-Indexed-2.result.now ≡ c.in-Indexed.count.value = search rules in
    let view : indexed c.in-Indexed.field-0 c.deref-in-Indexed.result.now c.deref-in-Indexed-2.result.now whole
    ≡ with_select c.args.select.now whole =
    (λ j. indexed c.in-Indexed.field-0 (start j) (count j) whole)
    ∙ ap (λ s. with_select s whole) (sym c.in-Indexed.is) in
    subst (λ xs. IsMaskOf ds c.args.decl.now xs c.indexed_of.result) view
    (c.indexed_of.ensures ds c.in-Indexed.field-0
    (subst (λ xs. IsSome (vector_size ds c.args.decl.now xs)) (sym view) sized)
    (subst (λ xs. are_fixed (flat_scopes ds) xs ≡ true) (sym view) fix))
