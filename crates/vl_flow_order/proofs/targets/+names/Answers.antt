use Rattle.std.proofs.Common.{◌≡◌, ◌+◌, ◌≤◌, ◌++◌, ◌∷◌, [], length, take, ap, sym, ◌∙◌, subst, arith, rules}
use Rattle.std.proofs.lemmas.Grind.{common_steps}
use Rattle.std.proofs.lemmas.List.{take_all}
use Rattle.vl_tree.specs.Lval.{joined, lvals}
use Rattle.vl_tree.specs.LvalView.{shown}
use Rattle.fv_bit_sets.specs.Cells.{has}
use Rattle.vl_flow_spec.specs.Assigned.{all_target_names, target_names}
use Rattle.vl_flow_order.specs.Sets.{some_has}
use Rattle.vl_flow_order.specs.Names.{AreNames}
use Rattle.vl_flow_order.proofs.Naming.{no_sets_named, same_named, set_behind, targets_behind}
use Rattle.vl_flow_order.proofs.targets.+names.Goals as goal

pub loop-part-init : goal.loop-part-init
loop-part-init t c = no_sets_named c.args.decls.now c.new-sets.result.items c.new-sets.ensures.items

pub loop-part-preserved : goal.loop-part-preserved
loop-part-preserved t c =
    let ds = c.args.decls.now in
    let xs = c.as_slice-part-items.result.now in
    let i = c.loop-part.part-index in
    let l = c.part-item.result in
    let more : take (i + 1) xs ≡ take i xs ++ l ∷ [] = grind (arith, common_steps) in
    set_behind ds (all_target_names (lvals (take i xs))) (target_names l) (all_target_names (lvals (take (i + 1) xs)))
    c.loop-part.sets.items c.push.new.marks.items c.in_ok-target_names-in-Concat.field-0 c.in_ok-push-in-Concat.ensures
    (ap (λ ys. all_target_names (lvals ys)) more ∙ targets_behind (take i xs) l) c.loop-part.invariant
    c.in_ok-target_names-in-Concat.ensures

pub returns-in_ok-union_of-in-Concat : goal.returns-in_ok-union_of-in-Concat
returns-in_ok-union_of-in-Concat t c =
    let ds = c.args.decls.now in
    let p = c.target.inside.pos in
    let parts = c.in-Concat.parts in
    let xs = c.as_slice-part-items.result.now in
    let i = c.loop-part.part-index in
    let sets = c.loop-part.sets.items in
    let made = c.in_ok-union_of-in-Concat.field-0 in
    let items : xs ≡ parts = search rules in
    let slice : c.as_slice.result.now ≡ sets = search rules in
    let past : length xs ≤ i = grind (arith, common_steps) in
    let same : joined p (lvals parts) ≡ c.args.target.now = ap (shown p) (sym c.in-Concat.is) ∙ c.target.view_is in
    subst (λ l. AreNames ds (target_names l) (has made)) same
    (same_named ds (all_target_names (lvals parts)) (some_has sets) (has made)
    (λ d b. c.in_ok-union_of-in-Concat.ensures d b ∙ ap (λ ss. some_has ss d b) slice)
    (subst (λ ys. AreNames ds (all_target_names (lvals ys)) (some_has sets)) (take_all i xs past ∙ items)
    c.loop-part.invariant))
