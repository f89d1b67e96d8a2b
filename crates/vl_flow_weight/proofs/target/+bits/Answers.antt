use Rattle.std.proofs.Common.{◌≡◌, ◌+◌, ◌∷◌, drop, ap, sym, ◌∙◌, subst, arith, rules}
use Rattle.std.proofs.lemmas.Grind.{common_steps}
use Rattle.vl_tree.specs.Lval.{lvals}
use Rattle.vl_mean.specs.FlatLaw.{all_target_sizes, target_size}
use Rattle.vl_tree.specs.LvalView.{shown}
use Rattle.vl_tree.specs.Lval.{named}
use Rattle.vl_tree.specs.ExprView.{selects}
use Rattle.vl_tree.specs.Expr.{name}
use Rattle.vl_size.specs.Size.{or_none, size}
use Rattle.vl_flow_weight.proofs.Adding.{Sums, sum_begun, sum_more, within}
use Rattle.vl_flow_weight.proofs.target.+bits.Goals as goal

pub loop-part-init : goal.loop-part-init
loop-part-init t c =
    let ds = c.args.decls.now in
    let xs = c.as_slice-part-items.result.now in
    sum_begun (all_target_sizes ds (lvals xs))

pub loop-part-preserved : goal.loop-part-preserved
loop-part-preserved t c =
    let ds = c.args.decls.now in
    let xs = c.as_slice-part-items.result.now in
    let i = c.loop-part.part-index in
    let l = c.part-item.result in
    let all = all_target_sizes ds (lvals xs) in
    let front : drop i xs ≡ l ∷ drop (i + 1) xs = grind (arith, common_steps) in
    sum_more c.loop-part.bits (target_size ds l) c.target_bits.result c.plus-bits.result
    (all_target_sizes ds (lvals (drop (i + 1) xs))) all c.target_bits.ensures c.plus-bits.ensures
    (subst (λ ls. Sums c.loop-part.bits (all_target_sizes ds (lvals ls)) all) front c.loop-part.invariant)

pub returns-in-Name : goal.returns-in-Name
returns-in-Name t c =
    let ds = c.args.decls.now in
    let p = c.target.inside.pos in
    let text = c.in-Name.text in
    let ss = c.in-Name.all in
    let n = c.bits_of.result in
    let slice : c.as_slice.result.now ≡ ss = search rules in
    let same : named p text (selects ss) ≡ c.args.target.now = ap (shown p) (sym c.in-Name.is) ∙ c.target.view_is in
    within n (target_size ds c.args.target.now) c.bits_of.type_inv
    (c.bits_of.ensures ∙ ap or_none (c.name_bits.ensures p ∙ ap (λ xs. size ds (name p text (selects xs))) slice)
    ∙ ap (target_size ds) same)
