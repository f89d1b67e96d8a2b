use Rattle.std.proofs.Common.{◌≡◌, ◌+◌, ◌∷◌, [], drop, ap, ◌∙◌, arith, rules}
use Rattle.std.specs.Prelude.{max}
use Rattle.std.proofs.lemmas.Grind.{common_steps}
use Rattle.vl_tree.specs.StmtView.{arms}
use Rattle.vl_mean.specs.Execution.{arms_size}
use Rattle.vl_mean.specs.FlatLaw.{flat_scopes}
use Rattle.vl_flow_weight.proofs.Statements.{largest_done, largest_more}
use Rattle.vl_flow_weight.proofs.labels.arms_bits.Goals as goal

pub loop-arm-init : goal.loop-arm-init
loop-arm-init c = omega arith

pub loop-arm-preserved : goal.loop-arm-preserved
loop-arm-preserved c =
    let ss = flat_scopes c.args.decls.now in
    let xs = c.args.all.now in
    let i = c.loop-arm.arm-index in
    let x = c.arm-item.result in
    let rest = arms (drop (i + 1) xs) in
    let front : drop i xs ≡ x ∷ drop (i + 1) xs = grind (arith, common_steps) in
    let next : c.max-bits.result ≡ max c.loop-arm.bits c.arm_bits.result = search rules in
    largest_more c.loop-arm.bits c.arm_bits.result (arms_size ss rest) c.max-bits.result
    (arms_size ss (arms (drop i xs))) (arms_size ss (arms xs)) next
    (ap (λ ys. arms_size ss (arms ys)) front ∙ c.arm_bits.ensures rest) c.loop-arm.invariant

pub returns : goal.returns
returns c =
    let ss = flat_scopes c.args.decls.now in
    let xs = c.args.all.now in
    let i = c.loop-arm.arm-index in
    let gone : drop i xs ≡ [] = grind (arith, common_steps) in
    largest_done c.loop-arm.bits (arms_size ss (arms (drop i xs))) (arms_size ss (arms xs))
    (ap (λ ys. arms_size ss (arms ys)) gone) c.loop-arm.invariant
