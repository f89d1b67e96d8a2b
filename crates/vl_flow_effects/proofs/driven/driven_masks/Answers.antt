use Rattle.std.proofs.Common.{◌≡◌, ◌+◌, ◌≤◌, ◌++◌, ◌∷◌, [], length, drop, take, ap, sym, ◌∙◌, arith, refl, Some}
use Rattle.std.specs.Prelude.{slice_get}
use Rattle.std.proofs.lemmas.Grind.{common_steps}
use Rattle.std.proofs.lemmas.List.{take_all}
use Rattle.vl_mean.specs.FlatLaw.{IsDriver, flat_scopes}
use Rattle.vl_mean.specs.FlatParts.{driver_part, parts_of}
use Rattle.vl_mean.specs.Runs.{is_driven, is_driven_by}
use Rattle.vl_flow_cells.proofs.Lists.{all_at}
use Rattle.vl_flow_order.specs.Sets.{some_has}
use Rattle.vl_flow_effects.proofs.Blocks.{by_drivers, driver_parts, one_driver_more}
use Rattle.vl_flow_effects.proofs.CellMasks.{get_drop, no_sets, set_more}
use Rattle.vl_flow_effects.proofs.driven.driven_masks.Goals as goal

pub loop-driver-init : goal.loop-driver-init
loop-driver-init c =
    no_sets c.args.decls.now c.new-sets.result.items (is_driven []) c.new-sets.ensures.items (λ n k. refl)

pub loop-driver-preserved : goal.loop-driver-preserved
loop-driver-preserved c =
    let ds = c.args.decls.now in
    let xs = c.args.drivers.now in
    let i = c.loop-driver.driver-index in
    let x = c.driver-item.result in
    let front : drop i xs ≡ x ∷ drop (i + 1) xs = grind (arith, common_steps) in
    let more : take (i + 1) xs ≡ take i xs ++ x ∷ [] = grind (arith, common_steps) in
    let at : slice_get xs i ≡ Some x = get_drop xs i ∙ ap (λ ys. slice_get ys 0) front in
    let is : IsDriver ds x.what = all_at (λ y. IsDriver ds y.what) xs i x at c.requires.driven in
    set_more ds c.loop-driver.sets.items c.push.new.sets.items c.in_ok-set.set
    (is_driven (driver_parts ds (take i xs))) (is_driven_by (driver_part (flat_scopes ds) x.what))
    (is_driven (driver_parts ds (take (i + 1) xs))) c.loop-driver.invariant c.in_ok-push.ensures
    (c.in_ok-set.ensures (c.drivers_are_sized.ensures ds x.what is))
    (λ n k. ap (λ ys. is_driven (driver_parts ds ys) n k) more ∙ one_driver_more ds (take i xs) x n k)

pub returns : goal.returns
returns c starts =
    let ds = c.args.decls.now in
    let xs = c.args.drivers.now in
    let i = c.loop-driver.driver-index in
    let past : length xs ≤ i = grind (arith, common_steps) in
    c.in_ok-masks_of.ensures (is_driven (parts_of ds xs starts))
    (λ x n k at.
    c.in_ok-all.ensures x k ∙ ap (λ s. some_has s x k) c.as_slice.ensures.value
    ∙ c.loop-driver.invariant x n k at
    ∙ ap (λ ys. is_driven (driver_parts ds ys) n k) (take_all i xs past) ∙ sym (by_drivers ds xs starts n k))
