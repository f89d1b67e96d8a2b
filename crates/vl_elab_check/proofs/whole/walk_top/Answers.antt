use Rattle.std.specs.Prelude.{[], ◌∷◌, ◌++◌, ◌-◌, length}
use Rattle.std.proofs.Common.{ap, subst, sym, ◌∙◌}
use Rattle.vl_tree.specs.Item.{items}
use Rattle.vl_tree.specs.WellFormed.{AreWellFormed}
use Rattle.vl_mean.specs.Walk.{items_walk, module_place, module_walk}
use Rattle.vl_elab_spec.specs.Items.{is_valued}
use Rattle.vl_elab_spec.specs.Walked.{AreWalked}
use Rattle.vl_elab_spec.specs.Within.{behind_head}
use Rattle.vl_elab_check.specs.Judged.{nothing, top_use}
use Rattle.vl_mean.specs.Cells.{contains_name}
use Rattle.vl_elab_check.proofs.Going.{none_of}
use Rattle.vl_elab_check.proofs.Places.{scope_again}
use Rattle.vl_elab_check.proofs.Judging.{head_passes, head_stops}
use Rattle.vl_elab_check.proofs.whole.walk_top.Goals as goal

pub returns-then-is_some : goal.returns-then-is_some
returns-then-is_some c formed w =
    let m = c.args.module.now in
    let ms = c.args.modules.now in
    head_stops ms (length ms - 1) m c.head.new.walk.totals c.in_ok-fault.fault
    (sym c.is_some.ensures ∙ c.if-is_some.true)
    (c.in_ok-fault.ensures.walked ms nothing top_use [] [] c.push.new.self c.new-totals.ensures
    (c.in_ok-used.ensures.here c.push.new.self w
    (c.in_ok-push.ensures.ok ∙ (λ i. c.new-path.ensures i ++ c.in_ok-copied.ensures i ∷ []))))

pub returns : goal.returns
returns c formed w =
    let m = c.args.module.now in
    let ms = c.args.modules.now in
    let place = module_place m top_use [] [] in
    let passed = sym c.is_some.ensures ∙ c.if-is_some.false in
    let there = c.in_ok-push.ensures.ok ∙ (λ i. c.new-path.ensures i ++ c.in_ok-copied.ensures i ∷ []) in
    let top = c.in_ok-used.ensures.here c.push.new.self w there in
    let still = c.in_ok-used.ensures.here c.head.new.walk.path w (c.in_ok-fault.ensures.path ∙ there) in
    head_passes ms (length ms - 1) m c.head.new.walk.totals c.walk_items.new.walk.totals c.in_ok-fault.fault
    c.in_ok-walk_items.field-0 passed
    (c.in_ok-fault.ensures.walked ms nothing top_use [] [] c.push.new.self c.new-totals.ensures top)
    (λ b totals. subst (λ xs. AreWalked ms b c.walk_items.new.walk.totals
    (items_walk is_valued ms (module_walk is_valued (length ms - 1) ms) (items xs) (behind_head place m) 1) c.in_ok-walk_items.field-0)
    c.as_slice.ensures
    (subst (λ n. AreWalked ms b c.walk_items.new.walk.totals
    (items_walk is_valued ms (module_walk is_valued n ms) (items c.as_slice.result.now) (behind_head place m) 1)
    c.in_ok-walk_items.field-0) c.saturating_sub.ensures
    (c.in_ok-walk_items.ensures.walked b (behind_head place m) 1 (record { formed = formed; totals = totals })
    (subst (λ xs. AreWellFormed (items xs)) (sym c.as_slice.ensures) w.4)
    (c.in_ok-fault.ensures.here (none_of c.in_ok-fault.fault passed) top_use [] [] c.head.new.walk.path still))))

pub push-requires : goal.push-requires
push-requires c = ap (λ ns. contains_name ns c.in_ok-copied.field-0) c.new-path.ensures

pub walk_items-requires-clause-scope : goal.walk_items-requires-clause-scope
walk_items-requires-clause-scope c =
    scope_again c.in_ok-used.used.inside c.head.new.used.inside c.in_ok-fault.ensures.numbers
    c.in_ok-used.ensures.scope
