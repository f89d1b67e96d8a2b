use Rattle.std.proofs.Common.{◌≡◌, ◌+◌, ◌≤◌, ◌++◌, ◌∷◌, [], length, drop, take, ap, ◌∙◌, subst, arith, Some}
use Rattle.std.specs.Prelude.{slice_get}
use Rattle.std.proofs.lemmas.Grind.{common_steps}
use Rattle.std.proofs.lemmas.List.{take_all}
use Rattle.vl_mean.specs.FlatLaw.{IsDriver}
use Rattle.vl_flow_cells.proofs.Lists.{all_at}
use Rattle.vl_flow.specs.Analyses.{AreSetsOf}
use Rattle.vl_flow.proofs.Analysing.{no_uses, uses_behind}
use Rattle.vl_flow.proofs.Each.{get_drop}
use Rattle.vl_flow.proofs.drivers.sets_of.Goals as goal

pub loop-driver-init : goal.loop-driver-init
loop-driver-init c driven =
    no_uses c.args.decls.now _ c.new.ensures c.new-2.ensures c.new-3.ensures

pub loop-driver-preserved : goal.loop-driver-preserved
loop-driver-preserved c driven =
    let ds = c.args.decls.now in
    let xs = c.args.drivers.now in
    let i = c.loop-driver.driver-index in
    let x = c.driver-item.result in
    let front : drop i xs ≡ x ∷ drop (i + 1) xs = grind (arith, common_steps) in
    let more : take (i + 1) xs ≡ take i xs ++ x ∷ [] = grind (arith, common_steps) in
    let at : slice_get xs i ≡ Some x = get_drop xs i ∙ ap (λ ys. slice_get ys 0) front in
    let is : IsDriver ds x.what = all_at (λ y. IsDriver ds y.what) xs i x at driven in
    uses_behind ds (take i xs) (take (i + 1) xs) x c.loop-driver.sets c.add.new.sets c.in_ok-uses.uses more
    c.in_ok-add.ensures (c.in_ok-uses.ensures (c.drivers_are_sized.ensures ds x.what is))
    (c.loop-driver.invariant driven)

pub returns : goal.returns
returns c driven =
    let ds = c.args.decls.now in
    let xs = c.args.drivers.now in
    let i = c.loop-driver.driver-index in
    let past : length xs ≤ i = grind (arith, common_steps) in
    subst (λ ys. AreSetsOf ds ys c.loop-driver.sets) (take_all i xs past) (c.loop-driver.invariant driven)
