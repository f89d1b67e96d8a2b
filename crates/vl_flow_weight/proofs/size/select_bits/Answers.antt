use Rattle.std.proofs.Common.{◌≡◌, ap, sym, ◌∙◌, rules}
use Rattle.vl_tree.specs.Expr.{indexed, part, whole}
use Rattle.vl_tree.specs.ExprView.{with_select}
use Rattle.vl_size.specs.Size.{vector_size}
use Rattle.vl_flow_weight.proofs.size.select_bits.Goals as goal

pub returns-in-Part : goal.returns-in-Part
returns-in-Part c =
    let ds = c.args.decls.now in
    let d = c.args.decl.now in
    let p = c.in-Part.field-0 in
    let left : c.deref-in-Part.result.now ≡ c.in-Part.left.value = search rules in
    let right : c.deref-in-Part-2.result.now ≡ c.in-Part.right.value = search rules in
    c.part_bits.ensures p ∙ (λ i. vector_size ds d (part p (left i) (right i) whole))
    ∙ ap (λ s. vector_size ds d (with_select s whole)) (sym c.in-Part.is)

pub returns-in-Indexed : goal.returns-in-Indexed
returns-in-Indexed c =
    let ds = c.args.decls.now in
    let d = c.args.decl.now in
    let p = c.in-Indexed.field-0 in
    let start : c.deref-in-Indexed.result.now ≡ c.in-Indexed.start.value = search rules in
    let count : c.deref-in-Indexed-2.result.now ≡ c.in-Indexed.count.value = search rules in
    c.indexed_bits.ensures p ∙ (λ i. vector_size ds d (indexed p (start i) (count i) whole))
    ∙ ap (λ s. vector_size ds d (with_select s whole)) (sym c.in-Indexed.is)
