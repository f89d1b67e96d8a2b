use Rattle.std.proofs.Common.{◌≡◌, ◌+◌, ◌∷◌, [], drop, subst, arith, rules}
use Rattle.std.proofs.lemmas.Grind.{common_steps}
use Rattle.vl_flow_spec.specs.Weight.{labels_weight, weight}
use Rattle.vl_flow_weight.proofs.Adding.{Sums, sum_begun, sum_done, sum_more}
use Rattle.vl_flow_weight.proofs.Statements.{label_weighs}
use Rattle.vl_flow_weight.proofs.labels.labels_weight.Goals as goal

pub loop-label-init : goal.loop-label-init
loop-label-init c = sum_begun (labels_weight c.args.decls.now c.args.bits c.args.all.now)

pub loop-label-preserved : goal.loop-label-preserved
loop-label-preserved c =
    let ds = c.args.decls.now in
    let n = c.args.bits in
    let xs = c.args.all.now in
    let i = c.loop-label.label-index in
    let e = c.label-item.result in
    let all = labels_weight ds n xs in
    let front : drop i xs ≡ e ∷ drop (i + 1) xs = grind (arith, common_steps) in
    sum_more c.loop-label.weight (n + weight ds n e) c.plus-one.result c.plus-weight.result
    (labels_weight ds n (drop (i + 1) xs)) all
    (label_weighs ds e c.weigh.result n c.at.result c.plus-one.result c.weigh.ensures (search rules) c.at.ensures
    c.plus-one.ensures) c.plus-weight.ensures
    (subst (λ es. Sums c.loop-label.weight (labels_weight ds n es) all) front c.loop-label.invariant)

pub returns : goal.returns
returns c =
    let ds = c.args.decls.now in
    let n = c.args.bits in
    let xs = c.args.all.now in
    let i = c.loop-label.label-index in
    let gone : drop i xs ≡ [] = grind (arith, common_steps) in
    sum_done c.loop-label.weight (labels_weight ds n xs)
    (subst (λ es. Sums c.loop-label.weight (labels_weight ds n es) (labels_weight ds n xs)) gone c.loop-label.invariant)
