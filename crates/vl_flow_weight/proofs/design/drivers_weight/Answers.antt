use Rattle.std.proofs.Common.{◌≡◌, ◌+◌, ◌∷◌, [], drop, subst, arith}
use Rattle.std.proofs.lemmas.Grind.{common_steps}
use Rattle.vl_flow_spec.specs.Weight.{design_weight, driver_weight}
use Rattle.vl_flow_weight.proofs.Adding.{Sums, sum_begun, sum_done, sum_more}
use Rattle.vl_flow_weight.proofs.design.drivers_weight.Goals as goal

pub loop-driver-init : goal.loop-driver-init
loop-driver-init c = sum_begun (design_weight c.args.decls.now c.args.drivers.now)

pub loop-driver-preserved : goal.loop-driver-preserved
loop-driver-preserved c =
    let ds = c.args.decls.now in
    let xs = c.args.drivers.now in
    let i = c.loop-driver.driver-index in
    let x = c.driver-item.result in
    let all = design_weight ds xs in
    let front : drop i xs ≡ x ∷ drop (i + 1) xs = grind (arith, common_steps) in
    sum_more c.loop-driver.weight (driver_weight ds x.what) c.in_ok-driver_weight.field-0 c.plus-weight.result
    (design_weight ds (drop (i + 1) xs)) all c.in_ok-driver_weight.ensures c.plus-weight.ensures
    (subst (λ ys. Sums c.loop-driver.weight (design_weight ds ys) all) front c.loop-driver.invariant)

pub returns : goal.returns
returns c =
    let ds = c.args.decls.now in
    let xs = c.args.drivers.now in
    let i = c.loop-driver.driver-index in
    let all = design_weight ds xs in
    let gone : drop i xs ≡ [] = grind (arith, common_steps) in
    sum_done c.loop-driver.weight all
    (subst (λ ys. Sums c.loop-driver.weight (design_weight ds ys) all) gone c.loop-driver.invariant)
