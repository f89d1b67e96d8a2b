use Rattle.std.proofs.Common.{◌≡◌, ◌+◌, ◌∷◌, drop, subst, arith}
use Rattle.std.proofs.lemmas.Grind.{common_steps}
use Rattle.vl_tree.specs.Lval.{lvals}
use Rattle.vl_flow_spec.specs.Weight.{target_weight, targets_weight}
use Rattle.vl_flow_weight.proofs.Adding.{Sums, sum_begun, sum_more}
use Rattle.vl_flow_weight.proofs.target.+writes.Goals as goal

pub loop-part-init : goal.loop-part-init
loop-part-init t c =
    let ds = c.args.decls.now in
    let xs = c.as_slice-part-items.result.now in
    sum_begun (targets_weight ds (lvals xs))

pub loop-part-preserved : goal.loop-part-preserved
loop-part-preserved t c =
    let ds = c.args.decls.now in
    let xs = c.as_slice-part-items.result.now in
    let i = c.loop-part.part-index in
    let l = c.part-item.result in
    let all = targets_weight ds (lvals xs) in
    let front : drop i xs ≡ l ∷ drop (i + 1) xs = grind (arith, common_steps) in
    sum_more c.loop-part.weight (target_weight ds l) c.target_weight.result c.plus-weight.result
    (targets_weight ds (lvals (drop (i + 1) xs))) all c.target_weight.ensures c.plus-weight.ensures
    (subst (λ ls. Sums c.loop-part.weight (targets_weight ds (lvals ls)) all) front c.loop-part.invariant)
