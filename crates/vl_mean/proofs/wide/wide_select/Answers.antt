use Rattle.std.proofs.Common.{rules, ◌≡◌, ◌∙◌, ap}
use Rattle.vl_tree.specs.ExprView.{with_select}
use Rattle.vl_size.specs.Divisors.{valid_size}
use Rattle.vl_mean.specs.Env.{cells_of}
use Rattle.vl_mean.proofs.Sized.{part_sized, indexed_sized}
use Rattle.vl_mean.proofs.wide.wide_select.Goals as goal

pub returns-in-Part : goal.returns-in-Part
returns-in-Part c rest =
    let left : c.deref.result.now ≡ c.in-Part.left.value = search rules in
    let right : c.deref-in-Part.result.now ≡ c.in-Part.right.value = search rules in
    let left_too : c.deref-in-Part-3.result.now ≡ c.deref.result.now = search rules in
    let right_too : c.deref-in-Part-2.result.now ≡ c.deref-in-Part.result.now = search rules in
    part_sized c.args.env.now.decls
    (cells_of c.args.env.now) c.args.select.now c.in-Part.field-0 rest _ _ _ _ _ _ _ _ _ _ _
    (λ rest. ap (λ s. with_select s rest) c.in-Part.is) left right c.own.ensures.index c.own-in-Part.ensures.index
    (c.size_of-in-Part.ensures.value ∙ (λ i. valid_size (c.decls-in-Part.ensures i) (left_too i)))
    (c.size_of.ensures.value ∙ (λ i. valid_size (c.decls.ensures i) (right_too i)))
    c.wide_part-size.ensures c.if_sized-size.ensures c.if_sized.ensures

pub returns-in-Indexed : goal.returns-in-Indexed
returns-in-Indexed c rest =
    let width : c.deref-in-Indexed.result.now ≡ c.in-Indexed.width.value = search rules in
    let start : c.deref-in-Indexed-3.result.now ≡ c.in-Indexed.start.value = search rules in
    let width_too : c.deref-in-Indexed-2.result.now ≡ c.deref-in-Indexed.result.now = search rules in
    indexed_sized c.args.env.now.decls
    (cells_of c.args.env.now) c.args.select.now c.in-Indexed.field-0 rest _ _ _ _ _ _ _ _ _ _
    (λ rest. ap (λ s. with_select s rest) c.in-Indexed.is) start width c.own-in-Indexed.ensures.index
    (c.size_of-in-Indexed-2.ensures.value ∙ (λ i. valid_size
    (c.decls-in-Indexed-2.ensures i) c.deref-in-Indexed-3.result.now))
    (c.size_of-in-Indexed.ensures.value ∙ (λ i. valid_size (c.decls-in-Indexed.ensures i) (width_too i)))
    c.wide_times-size.ensures c.if_sized-size-in-Indexed.ensures c.if_sized-in-Indexed.ensures
