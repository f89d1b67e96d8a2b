use Rattle.std.proofs.Common.{rules, ◌≡◌, ◌∙◌, ap}
use Rattle.vl_tree.specs.ExprView.{with_select}
use Rattle.vl_size.specs.Divisors.{valid_size}
use Rattle.vl_mean.specs.Env.{cells_of}
use Rattle.vl_mean.proofs.Sized.{indexed_ranged}
use Rattle.vl_mean.proofs.first_fault.range_fault.Goals as goal

pub returns-in-Indexed : goal.returns-in-Indexed
returns-in-Indexed c rest =
    let width : c.deref-in-Indexed.result.now ≡ c.in-Indexed.width.value = search rules in
    let width_too : c.deref-in-Indexed-2.result.now ≡ c.deref-in-Indexed.result.now = search rules in
    indexed_ranged c.args.env.now.decls
    (cells_of c.args.env.now) c.args.select.now c.in-Indexed.pos rest _ _ _ _ _ _ _ _
    (λ rest. ap (λ s. with_select s rest) c.in-Indexed.is) width c.own.ensures.index
    (c.size_of.ensures.value ∙ (λ i. valid_size (c.decls.ensures i) (width_too i)))
    c.wide_times-size.ensures c.range_unless.ensures c.if_sized.ensures
