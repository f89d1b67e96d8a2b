use Rattle.std.proofs.Common.{◌≡◌, ◌+◌, ◌≤◌, ◌++◌, ◌∷◌, [], length, drop, take, ap, sym, ◌∙◌, arith, refl, Some}
use Rattle.std.specs.Prelude.{slice_get, true}
use Rattle.std.proofs.lemmas.Grind.{common_steps}
use Rattle.std.proofs.lemmas.List.{take_all}
use Rattle.vl_mean.specs.FlatLaw.{IsAssigned, flat_scopes, is_variable}
use Rattle.vl_mean.specs.FlatParts.{parts_of, start_part}
use Rattle.vl_flow_cells.proofs.Lists.{all_at}
use Rattle.vl_flow_order.specs.Sets.{some_has}
use Rattle.vl_flow_effects.specs.Masks.{begins}
use Rattle.vl_flow_effects.proofs.Starts.{by_starts, one_start_more, start_begins, start_parts, target_sized}
use Rattle.vl_flow_effects.proofs.CellMasks.{get_drop, no_sets, set_more}
use Rattle.vl_flow_effects.proofs.started.started_masks.Goals as goal

pub loop-start-init : goal.loop-start-init
loop-start-init c =
    no_sets c.args.decls.now c.new-sets.result.items (begins []) c.new-sets.ensures.items (λ n k. refl)

pub loop-start-preserved : goal.loop-start-preserved
loop-start-preserved c =
    let ds = c.args.decls.now in
    let xs = c.args.starts.now in
    let i = c.loop-start.start-index in
    let x = c.start-item.result in
    let front : drop i xs ≡ x ∷ drop (i + 1) xs = grind (arith, common_steps) in
    let more : take (i + 1) xs ≡ take i xs ++ x ∷ [] = grind (arith, common_steps) in
    let at : slice_get xs i ≡ Some x = get_drop xs i ∙ ap (λ ys. slice_get ys 0) front in
    let is : IsAssigned ds is_variable true x.target =
    all_at (λ y. IsAssigned ds is_variable true y.target) xs i x at c.requires.started in
    set_more ds c.loop-start.sets.items c.push.new.sets.items c.in_ok-set.set
    (begins (start_parts ds (take i xs))) (begins (start_part (flat_scopes ds) x ∷ []))
    (begins (start_parts ds (take (i + 1) xs))) c.loop-start.invariant c.in_ok-push.ensures
    (λ y n k there.
    c.in_ok-set.ensures (target_sized ds x.target is.0) y n k there ∙ start_begins ds n k x is.0)
    (λ n k. ap (λ ys. begins (start_parts ds ys) n k) more ∙ one_start_more ds (take i xs) x n k)

pub returns : goal.returns
returns c drivers =
    let ds = c.args.decls.now in
    let xs = c.args.starts.now in
    let i = c.loop-start.start-index in
    let past : length xs ≤ i = grind (arith, common_steps) in
    c.in_ok-masks_of.ensures (begins (parts_of ds drivers xs))
    (λ x n k at.
    c.in_ok-all.ensures x k ∙ ap (λ s. some_has s x k) c.as_slice.ensures.value
    ∙ c.loop-start.invariant x n k at
    ∙ ap (λ ys. begins (start_parts ds ys) n k) (take_all i xs past) ∙ sym (by_starts ds drivers xs n k))
