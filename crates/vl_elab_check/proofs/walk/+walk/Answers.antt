use Rattle.std.proofs.Common.{◌≡◌, ◌+◌, ◌<◌, ◌≤◌, ◌∷◌, ◌++◌, [], ℕ, refl, inl, inr, true≢false, ap, sym, ◌∙◌, subst}
use Rattle.std.proofs.Common.{drop, arith, rules}
use Rattle.std.specs.Prelude.{List, Some, is_some}
use Rattle.std.specs.Option.{option_copied, option_map}
use Rattle.std.proofs.lemmas.Grind.{common_steps}
use Rattle.vl_tree.specs.declared.item.ItemKind.TheVariants as kind
use Rattle.vl_tree.specs.Item.{Item, declaration, integer, genvar, parameter, assign, always, initial, instance}
use Rattle.vl_tree.specs.Item.{generate, for_loop, items, items_depth, block_depth, depth}
use Rattle.vl_tree.specs.ItemView.{block, shown}
use Rattle.vl_tree.specs.WellFormed.{AreWellFormed, IsWellFormed}
use Rattle.vl_mean.specs.declared.const_number.Const.{Const}
use Rattle.vl_mean.specs.Walk.{Place, Step, block_place, goes_on, items_walk, loop_walk, module_named}
use Rattle.vl_mean.specs.Walk.{module_place, next_turn, turn_path}
use Rattle.vl_mean.specs.Cells.{contains_name}
use Rattle.vl_mean.specs.Walk.{turn_place, turn_walk, module_walk, use_of, with_earlier}
use Rattle.vl_mean.specs.Declarations.{block_name, label_of}
use Rattle.vl_elab_spec.specs.Items.{is_valued}
use Rattle.vl_elab_spec.specs.Meanings.{item_names}
use Rattle.vl_elab_spec.specs.Refused.{Totals, nowhere}
use Rattle.vl_elab_spec.specs.Walked.{AreWalked}
use Rattle.vl_elab_spec.specs.Left.{ItemsAreLeft}
use Rattle.vl_elab_spec.specs.Within.{IsNotRecursive, behind_head, chosen_by, deepest, inner_walk, nested_if}
use Rattle.vl_elab_spec.proofs.Behind.{items_end, items_on, items_stop, turns_end, turns_gone, turns_on, turns_stop}
use Rattle.vl_elab_spec.proofs.Inner.{by_is, nested_is}
use Rattle.vl_elab_spec.proofs.Unfolded.{named_is}
use Rattle.vl_elab_decls.specs.declared.scopes.Inside.{Inside}
use Rattle.vl_elab_check.specs.Standing.{HasScope, IsHanded, IsHere, IsSoFar, IsWithin}
use Rattle.vl_elab_check.proofs.Going.{all_items, block_stops, first_turn_left, if_names, items_formed}
use Rattle.vl_elab_check.proofs.Going.{leaf_walked, nested_walked, none_chosen, none_of}
use Rattle.vl_elab_check.proofs.Going.{opening_passes, opening_stops, own_passes, own_stops, scope_walked, some_chosen}
use Rattle.vl_elab_check.proofs.Going.{bare_walked, deep_walked, module_walked, not_around, turn_stops, turn_walked}
use Rattle.vl_elab_check.proofs.Going.{unnamed_walked}
use Rattle.vl_elab_check.proofs.Depths.{module_below, part_depth, slice_depth}
use Rattle.vl_elab_check.proofs.Going.{if_depth, none_within}
use Rattle.vl_elab_check.proofs.Places.{scope_again, scope_left, stays_here, stays_within}
use Rattle.vl_elab_check.proofs.Places.{around_again, block_handed, here_again, reached_again, same_reached}
use Rattle.vl_elab_check.proofs.Places.{turn_around, turn_handed, turn_left, within_again}
use Rattle.vl_elab_check.proofs.walk.+walk.Goals as goal

-- ---- the items of a scope

pub walk_items-loop-part-init : goal.walk_items-loop-part-init
walk_items-loop-part-init z c = record {
  inside = refl;
  path = refl;
  scope = c.requires.scope;
  formed = λ w. w;
  left = λ t at n so w h.
      all_items c.args.source.now.modules.now c.args.source.now.fuel c.args.inside.now c.args.here.now c.args.walk.now.path
      (items c.args.all.now) c.args.walk.now.totals t at n so h;
}

pub walk_items-loop-part-preserved : goal.walk_items-loop-part-preserved
walk_items-loop-part-preserved z c =
    let ms = c.args.source.now.modules.now in
    let inner = module_walk is_valued c.args.source.now.fuel ms in
    let xs = c.args.all.now in
    let i = c.loop-part.part-index in
    let x = c.part-item.result in
    let front : drop i xs ≡ x ∷ drop (i + 1) xs = grind (arith, common_steps) in
    record {
      inside = c.in_ok-fault.ensures.inside ∙ c.loop-part.invariant.inside;
      path = c.in_ok-fault.ensures.path ∙ c.loop-part.invariant.path;
      scope = subst HasScope (sym c.in_ok-fault.ensures.inside) c.loop-part.invariant.scope;
      formed = λ w. (subst (λ ys. AreWellFormed (items ys)) front (c.loop-part.invariant.formed w)).1;
      left = λ t at n so w h.
          items_on ms t (items_walk is_valued ms inner (items xs) at n) inner c.loop-part.walk.totals c.walk_one.new.walk.totals
          (IsHere c.loop-part.inside c.loop-part.here c.loop-part.walk.path)
          (IsHere c.walk_one.new.inside c.pass.new.here c.walk_one.new.walk.path) x (items (drop (i + 1) xs))
          c.in_ok-fault.fault (sym c.is_some.ensures ∙ c.if-is_some.false)
          (subst (λ ys. ItemsAreLeft ms inner t (items_walk is_valued ms inner (items xs) at n)
          (IsHere c.loop-part.inside c.loop-part.here c.loop-part.walk.path) c.loop-part.walk.totals (items ys)) front
          (c.loop-part.invariant.left t at n so w h))
          (λ p k here b totals. c.in_ok-fault.ensures.walked b p k (record { formed = so.formed; totals = totals })
          (subst (λ ys. AreWellFormed (items ys)) front (c.loop-part.invariant.formed w)).0 here)
          (λ p here. c.in_ok-pass.ensures p c.walk_one.new.walk.path (c.in_ok-fault.ensures.here p here));
    }

pub walk_items-returns-then-is_some-clause-inside : goal.walk_items-returns-then-is_some-clause-inside
walk_items-returns-then-is_some-clause-inside z c =
    c.in_ok-fault.ensures.inside ∙ c.loop-part.invariant.inside

pub walk_items-returns-then-is_some-clause-path : goal.walk_items-returns-then-is_some-clause-path
walk_items-returns-then-is_some-clause-path z c = c.in_ok-fault.ensures.path ∙ c.loop-part.invariant.path

pub walk_items-returns-then-is_some-clause-walked : goal.walk_items-returns-then-is_some-clause-walked
walk_items-returns-then-is_some-clause-walked z c t at n so w h =
    let ms = c.args.source.now.modules.now in
    let inner = module_walk is_valued c.args.source.now.fuel ms in
    let xs = c.args.all.now in
    let i = c.loop-part.part-index in
    let x = c.part-item.result in
    let front : drop i xs ≡ x ∷ drop (i + 1) xs = grind (arith, common_steps) in
    items_stop ms t (items_walk is_valued ms inner (items xs) at n) inner c.loop-part.walk.totals c.walk_one.new.walk.totals
    (IsHere c.loop-part.inside c.loop-part.here c.loop-part.walk.path) x (items (drop (i + 1) xs)) c.in_ok-fault.fault
    (sym c.is_some.ensures ∙ c.if-is_some.true)
    (subst (λ ys. ItemsAreLeft ms inner t (items_walk is_valued ms inner (items xs) at n)
    (IsHere c.loop-part.inside c.loop-part.here c.loop-part.walk.path) c.loop-part.walk.totals (items ys)) front
    (c.loop-part.invariant.left t at n so w h))
    (λ p k here b totals. c.in_ok-fault.ensures.walked b p k (record { formed = so.formed; totals = totals })
    (subst (λ ys. AreWellFormed (items ys)) front (c.loop-part.invariant.formed w)).0 here)

pub walk_items-returns-clause-inside : goal.walk_items-returns-clause-inside
walk_items-returns-clause-inside z c = c.loop-part.invariant.inside

pub walk_items-returns-clause-path : goal.walk_items-returns-clause-path
walk_items-returns-clause-path z c = c.loop-part.invariant.path

pub walk_items-returns-clause-walked : goal.walk_items-returns-clause-walked
walk_items-returns-clause-walked z c t at n so w h =
    let ms = c.args.source.now.modules.now in
    let inner = module_walk is_valued c.args.source.now.fuel ms in
    let xs = c.args.all.now in
    let gone : drop c.loop-part.part-index xs ≡ [] = grind (arith, common_steps) in
    items_end ms t (items_walk is_valued ms inner (items xs) at n) inner c.loop-part.walk.totals
    (IsHere c.loop-part.inside c.loop-part.here c.loop-part.walk.path)
    (subst (λ ys. ItemsAreLeft ms inner t (items_walk is_valued ms inner (items xs) at n)
    (IsHere c.loop-part.inside c.loop-part.here c.loop-part.walk.path) c.loop-part.walk.totals (items ys)) gone
    (c.loop-part.invariant.left t at n so w h))

-- ---- an item

pub walk_one-returns-then-is_some-clause-walked : goal.walk_one-returns-then-is_some-clause-walked
walk_one-returns-then-is_some-clause-walked z c t at n so w h =
    own_stops c.args.source.now.modules.now c.args.source.now.fuel c.args.part.now at n t c.walk_item.new.walk.totals c.in_ok-fault.fault
    (sym c.is_some.ensures ∙ c.if-is_some.true) (c.in_ok-fault.ensures.walked at t h so.totals)

pub walk_one-returns-clause-inside : goal.walk_one-returns-clause-inside
walk_one-returns-clause-inside z c = c.in_ok-walk_within.ensures.inside ∙ c.in_ok-fault.ensures.inside

pub walk_one-returns-clause-here : goal.walk_one-returns-clause-here
walk_one-returns-clause-here z c at h =
    c.in_ok-walk_within.ensures.here (with_earlier at (item_names c.args.part.now)) (c.in_ok-fault.ensures.here at h)

pub walk_one-returns-clause-walked : goal.walk_one-returns-clause-walked
walk_one-returns-clause-walked z c t at n so w h =
    own_passes c.args.source.now.modules.now c.args.source.now.fuel c.args.part.now at n t c.walk_item.new.walk.totals
    c.walk_within.new.walk.totals c.in_ok-fault.fault c.in_ok-walk_within.field-0
    (sym c.is_some.ensures ∙ c.if-is_some.false) (c.in_ok-fault.ensures.walked at t h so.totals)
    (λ free b totals. c.in_ok-walk_within.ensures.walked b at n (record { formed = so.formed; totals = totals }) w
    free (c.in_ok-fault.ensures.here at h))

-- ---- what is in an item

pub walk_within-returns-in_ok-walk_instance-in-Instance-clause-walked :
    goal.walk_within-returns-in_ok-walk_instance-in-Instance-clause-walked
walk_within-returns-in_ok-walk_instance-in-Instance-clause-walked z c =
    let ms = c.args.source.now.modules.now in
    let inner = module_walk is_valued c.args.source.now.fuel ms in
    let g = c.in_ok-walk_instance-in-Instance.field-0 in
    let same : instance c.part.inside.attributes c.part.inside.pos c.in-Instance.instance ≡ c.args.part.now =
    ap (shown c.part.inside.attributes c.part.inside.pos) (sym c.in-Instance.is) ∙ c.part.view_is in
    subst (λ (x : Item). (t : Totals) (at : Place) (n : ℕ) → IsSoFar ms c.args.walk.now.totals t → IsWellFormed x
    → IsNotRecursive x at → IsHere c.args.inside.now c.args.here.now c.args.walk.now.path (with_earlier at (item_names x))
    → AreWalked ms t c.walk_instance.new.walk.totals (inner_walk is_valued ms inner x at n) g) same
    (λ t at n so w free h. c.in_ok-walk_instance-in-Instance.ensures.walked t at so free
    (stays_within c.args.inside.now c.args.walk.now.path at [] h.within))

pub walk_within-returns-in_ok-walk_instance-in-Instance-clause-here :
    goal.walk_within-returns-in_ok-walk_instance-in-Instance-clause-here
walk_within-returns-in_ok-walk_instance-in-Instance-clause-here z c at h =
    subst (λ p. IsHere c.args.inside.now c.args.here.now p at) (sym c.in_ok-walk_instance-in-Instance.ensures.path) h

pub walk_within-returns-in_ok-walk_turns-in-For-clause-walked :
    goal.walk_within-returns-in_ok-walk_turns-in-For-clause-walked
walk_within-returns-in_ok-walk_turns-in-For-clause-walked z c =
    let ms = c.args.source.now.modules.now in
    let inner = module_walk is_valued c.args.source.now.fuel ms in
    let g = c.in_ok-walk_turns-in-For.field-0 in
    let b = block c.in-For.block in
    let same : for_loop c.part.inside.attributes c.part.inside.pos c.in-For.head b ≡ c.args.part.now =
    ap (shown c.part.inside.attributes c.part.inside.pos) (sym c.in-For.is) ∙ c.part.view_is in
    subst (λ (x : Item). (t : Totals) (at : Place) (n : ℕ) → IsSoFar ms c.args.walk.now.totals t → IsWellFormed x
    → IsNotRecursive x at → IsHere c.args.inside.now c.args.here.now c.args.walk.now.path (with_earlier at (item_names x))
    → AreWalked ms t c.walk_turns.new.walk.totals (inner_walk is_valued ms inner x at n) g) same
    (λ t at n so w free h. c.in_ok-walk_turns-in-For.ensures.walked t at
    (λ v. turn_path at.path (block_name at.names n (label_of b)) v) so w.2
    (stays_here c.args.inside.now c.args.here.now c.args.walk.now.path at h))

pub walk_within-returns-in_ok-walk_turns-in-For-clause-here :
    goal.walk_within-returns-in_ok-walk_turns-in-For-clause-here
walk_within-returns-in_ok-walk_turns-in-For-clause-here z c at h =
    here_again c.args.inside.now c.walk_turns.new.inside c.args.here.now c.walk_turns.new.here c.args.walk.now.path
    c.walk_turns.new.walk.path at c.in_ok-walk_turns-in-For.ensures.inside c.in_ok-walk_turns-in-For.ensures.here
    c.in_ok-walk_turns-in-For.ensures.path h

pub walk_within-returns-in_ok-walk_if-in-If-clause-walked : goal.walk_within-returns-in_ok-walk_if-in-If-clause-walked
walk_within-returns-in_ok-walk_if-in-If-clause-walked z c =
    let ms = c.args.source.now.modules.now in
    let inner = module_walk is_valued c.args.source.now.fuel ms in
    let g = c.in_ok-walk_if-in-If.field-0 in
    let a = c.part.inside.attributes in
    let p = c.part.inside.pos in
    let same : shown a p (kind.If c.in-If.condition c.in-If.first c.in-If.second) ≡ c.args.part.now =
    ap (shown a p) (sym c.in-If.is) ∙ c.part.view_is in
    let none : item_names (shown a p (kind.If c.in-If.condition c.in-If.first c.in-If.second)) ≡ [] =
    if_names a p c.in-If.condition c.in-If.first c.in-If.second in
    subst (λ (x : Item). (t : Totals) (at : Place) (n : ℕ) → IsSoFar ms c.args.walk.now.totals t → IsWellFormed x
    → IsNotRecursive x at → IsHere c.args.inside.now c.args.here.now c.args.walk.now.path (with_earlier at (item_names x))
    → AreWalked ms t c.walk_if.new.walk.totals (inner_walk is_valued ms inner x at n) g) same
    (λ t at n so w free h. c.in_ok-walk_if-in-If.ensures.walked t at n a p so w
    (stays_here c.args.inside.now c.args.here.now c.args.walk.now.path at
    (subst (λ xs. IsHere c.args.inside.now c.args.here.now c.args.walk.now.path (with_earlier at xs)) none h)))

pub walk_within-returns-in-Declaration-clause-inside : goal.walk_within-returns-in-Declaration-clause-inside
walk_within-returns-in-Declaration-clause-inside z c = refl

pub walk_within-returns-in-Declaration-clause-path : goal.walk_within-returns-in-Declaration-clause-path
walk_within-returns-in-Declaration-clause-path z c = refl

pub walk_within-returns-in-Declaration-clause-here : goal.walk_within-returns-in-Declaration-clause-here
walk_within-returns-in-Declaration-clause-here z c at h = h

pub walk_within-returns-in-Declaration-clause-walked : goal.walk_within-returns-in-Declaration-clause-walked
walk_within-returns-in-Declaration-clause-walked z c t at n so w free h =
    let ms = c.args.source.now.modules.now in
    let a = c.part.inside.attributes in
    let p = c.part.inside.pos in
    let none : (q : Place) (k : ℕ) → inner_walk is_valued ms (module_walk is_valued c.args.source.now.fuel ms) c.args.part.now q k ≡ [] =
    elim c.in-Declaration.is [
      | inl w ↦ none_within ms c.args.source.now.fuel c.args.part.now (declaration a p w.0)
          (ap (shown a p) (sym w.1) ∙ c.part.view_is) (λ q k. refl)
      | inr r ↦ elim r [
        | inl w ↦ none_within ms c.args.source.now.fuel c.args.part.now (integer a p w.0)
            (ap (shown a p) (sym w.1) ∙ c.part.view_is) (λ q k. refl)
        | inr w ↦ none_within ms c.args.source.now.fuel c.args.part.now (genvar a p w.0)
            (ap (shown a p) (sym w.1) ∙ c.part.view_is) (λ q k. refl)
      ]
    ] in
    leaf_walked ms c.args.source.now.fuel c.args.part.now none at n t c.args.walk.now.totals so.totals

pub walk_within-returns-in-Parameter-clause-inside : goal.walk_within-returns-in-Parameter-clause-inside
walk_within-returns-in-Parameter-clause-inside z c = refl

pub walk_within-returns-in-Parameter-clause-path : goal.walk_within-returns-in-Parameter-clause-path
walk_within-returns-in-Parameter-clause-path z c = refl

pub walk_within-returns-in-Parameter-clause-here : goal.walk_within-returns-in-Parameter-clause-here
walk_within-returns-in-Parameter-clause-here z c at h = h

pub walk_within-returns-in-Parameter-clause-walked : goal.walk_within-returns-in-Parameter-clause-walked
walk_within-returns-in-Parameter-clause-walked z c t at n so w free h =
    let ms = c.args.source.now.modules.now in
    let a = c.part.inside.attributes in
    let p = c.part.inside.pos in
    let none : (q : Place) (k : ℕ) → inner_walk is_valued ms (module_walk is_valued c.args.source.now.fuel ms) c.args.part.now q k ≡ [] =
    elim c.in-Parameter.is [
      | inl w ↦ none_within ms c.args.source.now.fuel c.args.part.now (parameter a p w.0 w.1)
          (ap (shown a p) (sym w.2) ∙ c.part.view_is) (λ q k. refl)
      | inr r ↦ elim r [
        | inl w ↦ none_within ms c.args.source.now.fuel c.args.part.now (assign a p w.0)
            (ap (shown a p) (sym w.1) ∙ c.part.view_is) (λ q k. refl)
        | inr w ↦ none_within ms c.args.source.now.fuel c.args.part.now (always a p w.0 w.1)
            (ap (shown a p) (sym w.2) ∙ c.part.view_is) (λ q k. refl)
      ]
    ] in
    leaf_walked ms c.args.source.now.fuel c.args.part.now none at n t c.args.walk.now.totals so.totals

pub walk_within-returns-in-Initial-clause-inside : goal.walk_within-returns-in-Initial-clause-inside
walk_within-returns-in-Initial-clause-inside z c = refl

pub walk_within-returns-in-Initial-clause-path : goal.walk_within-returns-in-Initial-clause-path
walk_within-returns-in-Initial-clause-path z c = refl

pub walk_within-returns-in-Initial-clause-here : goal.walk_within-returns-in-Initial-clause-here
walk_within-returns-in-Initial-clause-here z c at h = h

pub walk_within-returns-in-Initial-clause-walked : goal.walk_within-returns-in-Initial-clause-walked
walk_within-returns-in-Initial-clause-walked z c t at n so w free h =
    let ms = c.args.source.now.modules.now in
    let a = c.part.inside.attributes in
    let p = c.part.inside.pos in
    let none : (q : Place) (k : ℕ) → inner_walk is_valued ms (module_walk is_valued c.args.source.now.fuel ms) c.args.part.now q k ≡ [] =
    elim c.in-Initial.is [
      | inl w ↦ none_within ms c.args.source.now.fuel c.args.part.now (initial a p w.0)
          (ap (shown a p) (sym w.1) ∙ c.part.view_is) (λ q k. refl)
      | inr w ↦ none_within ms c.args.source.now.fuel c.args.part.now (generate a p w.0)
          (ap (shown a p) (sym w.1) ∙ c.part.view_is) (λ q k. refl)
    ] in
    leaf_walked ms c.args.source.now.fuel c.args.part.now none at n t c.args.walk.now.totals so.totals

-- ---- an `if`

pub walk_if-returns-in-None-clause-walked : goal.walk_if-returns-in-None-clause-walked
walk_if-returns-in-None-clause-walked z c t at n a p so w h =
    none_chosen c.args.source.now.modules.now c.args.source.now.fuel a p c.args.condition.now c.args.first.now c.args.second.now
    c.in_ok-holds.holds c.args.inside.now.names c.args.inside.now.numbers c.in_ok-holds.ensures at
    h.known.alike h.within.stands.numbers n t
    c.args.walk.now.totals (sym (ap (λ o. option_map block (option_copied o)) c.in-None.is) ∙ c.chosen_by.ensures) so.totals

pub walk_if-returns-in_ok-walk_block-in-Some-clause-walked : goal.walk_if-returns-in_ok-walk_block-in-Some-clause-walked
walk_if-returns-in_ok-walk_block-in-Some-clause-walked z c t at n a p so w h =
    let b = block c.in-Some.block.now in
    let some : Some b ≡ chosen_by c.in_ok-holds.holds (block c.args.first.now) (option_map block c.args.second.now) =
    c.in-Some.ensures in
    some_chosen c.args.source.now.modules.now c.args.source.now.fuel a p c.args.condition.now c.args.first.now c.args.second.now
    c.in_ok-holds.holds c.args.inside.now.names c.args.inside.now.numbers c.in_ok-holds.ensures at
    h.known.alike h.within.stands.numbers n b t
    c.walk_block.new.walk.totals c.in_ok-walk_block-in-Some.field-0 some
    (c.in_ok-walk_block-in-Some.ensures.walked t at n so
    ((by_is a p c.args.condition.now c.args.first.now c.args.second.now c.in_ok-holds.holds b some).formed w) h)

-- ---- blocks

pub walk_block-returns-then-is_some-clause-inside : goal.walk_block-returns-then-is_some-clause-inside
walk_block-returns-then-is_some-clause-inside z c = refl

pub walk_block-returns-then-is_some-clause-path : goal.walk_block-returns-then-is_some-clause-path
walk_block-returns-then-is_some-clause-path z c = c.begin_block-own.ensures.path

pub walk_block-returns-then-is_some-clause-here : goal.walk_block-returns-then-is_some-clause-here
walk_block-returns-then-is_some-clause-here z c at h =
    subst (λ p. IsHere c.args.inside.now c.args.here.now p at) (sym c.begin_block-own.ensures.path) h

pub walk_block-returns-then-is_some-clause-walked : goal.walk_block-returns-then-is_some-clause-walked
walk_block-returns-then-is_some-clause-walked z c t at n so w h =
    let ms = c.args.source.now.modules.now in
    block_stops ms c.args.source.now.fuel (block c.args.block.now) at n t c.begin_block-own.new.walk.totals
    c.begin_block-own.result (sym c.is_some.ensures ∙ c.if-is_some.true)
    (c.begin_block-own.ensures.walked ms t at so.totals)

pub walk_block-returns-in-None-clause-walked : goal.walk_block-returns-in-None-clause-walked
walk_block-returns-in-None-clause-walked z c t at n so w h =
    let ms = c.args.source.now.modules.now in
    let fuel = c.args.source.now.fuel in
    let b = block c.args.block.now in
    let xs = items c.items_of.result.now in
    scope_walked ms fuel b at t c.begin_block-own.new.walk.totals c.walk_inner.new.walk.totals c.begin_block-own.result
    c.in_ok-walk_inner-in-None.field-0 (sym c.is_some.ensures ∙ c.if-is_some.false)
    (c.begin_block-own.ensures.walked ms t at so.totals) xs n c.items_of.ensures
    (sym (sym (ap option_copied c.in-None.is) ∙ c.nested.ensures))
    (λ text k totals. c.in_ok-walk_inner-in-None.ensures.walked k at text
    (record { formed = so.formed; totals = totals }) (items_formed ms fuel b xs c.items_of.ensures w)
    (subst (λ p. IsHere c.args.inside.now c.args.here.now p at) (sym c.begin_block-own.ensures.path) h))

pub walk_block-returns-clause-walked : goal.walk_block-returns-clause-walked
walk_block-returns-clause-walked z c t at n so w h =
    let ms = c.args.source.now.modules.now in
    let b = block c.args.block.now in
    let x = c.in-Some.part.now in
    let some : nested_if b ≡ Some x = sym c.in-Some.ensures in
    nested_walked ms c.args.source.now.fuel b at t c.begin_block-own.new.walk.totals c.walk_one.new.walk.totals
    c.begin_block-own.result c.in_ok-walk_one-in-Some.field-0 (sym c.is_some.ensures ∙ c.if-is_some.false)
    (c.begin_block-own.ensures.walked ms t at so.totals) x n some
    (λ k totals. c.in_ok-walk_one-in-Some.ensures.walked k at n (record { formed = so.formed; totals = totals })
    ((nested_is b x some).formed w)
    (subst (λ p. IsHere c.args.inside.now c.args.here.now p at) (sym c.begin_block-own.ensures.path) h))

pub walk_block-returns-clause-here : goal.walk_block-returns-clause-here
walk_block-returns-clause-here z c at h =
    let b = block c.args.block.now in
    let x = c.in-Some.part.now in
    let some : nested_if b ≡ Some x = sym c.in-Some.ensures in
    stays_here c.walk_one.new.inside c.walk_one.new.here c.walk_one.new.walk.path at
    (subst (λ xs. IsHere c.walk_one.new.inside c.walk_one.new.here c.walk_one.new.walk.path
    (with_earlier at xs)) (nested_is b x some).names (c.in_ok-walk_one-in-Some.ensures.here at
    (subst (λ p. IsHere c.args.inside.now c.args.here.now p at) (sym c.begin_block-own.ensures.path) h)))

-- ---- turns of a loop

pub walk_turns-loop-left-init : goal.walk_turns-loop-left-init
walk_turns-loop-left-init z c = record {
  inside = c.in_ok-left.ensures.inside;
  path = refl;
  here = refl;
  left = λ t at paths so w h.
      first_turn_left c.args.source.now.modules.now c.args.source.now.fuel (block c.args.block.now) c.args.head.now at paths
      c.args.walk.now.totals t c.in_ok-value.value c.in_ok-left.left so.totals
      (c.in_ok-value.ensures at.scopes h.within.stands.numbers)
      (c.in_ok-left.ensures.limit at c.args.walk.now.path h.within);
}

pub walk_turns-loop-left-preserved : goal.walk_turns-loop-left-preserved
walk_turns-loop-left-preserved z c =
    let ms = c.args.source.now.modules.now in
    let inner = module_walk is_valued c.args.source.now.fuel ms in
    let head = c.args.head.now in
    let b = block c.args.block.now in
    let positive : 0 < c.loop-left.left = omega (arith, c.loop-left-test.true) in
    let kept = c.in_ok-next.ensures.inside ∙ c.loop-left.invariant.inside in
    record {
      inside = c.in_ok-walk_turn.ensures.inside ∙ kept;
      path = c.in_ok-walk_turn.ensures.path ∙ c.loop-left.invariant.path;
      here = same_reached c.args.here.now c.loop-left.here c.walk_turn.new.reached c.in_ok-walk_turn.ensures.reached
          c.loop-left.invariant.here;
      left = λ t at paths so w h.
          let within : IsWithin c.loop-left.inside c.loop-left.walk.path at =
          within_again c.args.inside.now c.loop-left.inside c.args.walk.now.path c.loop-left.walk.path at
          c.loop-left.invariant.inside c.loop-left.invariant.path h.within in
          let body : Const → List Step = λ v. turn_walk is_valued ms inner b (turn_place at head.variable v) (paths v) in
          turns_on ms t (loop_walk is_valued head at body) (goes_on head at.scopes) (next_turn head at.scopes) body
          c.loop-left.walk.totals c.walk_turn.new.walk.totals c.loop-left.left c.loop-left.value c.in-Some.next
          c.in_ok-walk_turn.field-0 positive
          (sym c.in-Some.is ∙ c.in_ok-next.ensures.next at c.loop-left.walk.path within)
          (ap is_some c.in-None.is)
          (c.loop-left.invariant.left t at paths so w h)
          (λ k totals. c.in_ok-walk_turn.ensures.walked k at (paths c.loop-left.value)
          (record { formed = so.formed; totals = totals }) w
          (within_again c.loop-left.inside c.next_value.new.inside c.loop-left.walk.path c.loop-left.walk.path at
          c.in_ok-next.ensures.inside refl within)
          (reached_again c.args.here.now c.loop-left.here at c.loop-left.invariant.here h.known.parameters));
    }

pub walk_turns-returns-in_default-clause-inside : goal.walk_turns-returns-in_default-clause-inside
walk_turns-returns-in_default-clause-inside z c = c.in_ok-next.ensures.inside ∙ c.loop-left.invariant.inside

pub walk_turns-returns-in_default-clause-path : goal.walk_turns-returns-in_default-clause-path
walk_turns-returns-in_default-clause-path z c = c.loop-left.invariant.path

pub walk_turns-returns-in_default-clause-walked : goal.walk_turns-returns-in_default-clause-walked
walk_turns-returns-in_default-clause-walked z c t at paths so w h =
    let ms = c.args.source.now.modules.now in
    let inner = module_walk is_valued c.args.source.now.fuel ms in
    let head = c.args.head.now in
    let b = block c.args.block.now in
    let positive : 0 < c.loop-left.left = omega (arith, c.loop-left-test.true) in
    let within : IsWithin c.loop-left.inside c.loop-left.walk.path at =
    within_again c.args.inside.now c.loop-left.inside c.args.walk.now.path c.loop-left.walk.path at
    c.loop-left.invariant.inside c.loop-left.invariant.path h.within in
    let body : Const → List Step = λ v. turn_walk is_valued ms inner b (turn_place at head.variable v) (paths v) in
    turns_end ms t (loop_walk is_valued head at body) (goes_on head at.scopes) (next_turn head at.scopes) body
    c.loop-left.walk.totals c.loop-left.left c.loop-left.value positive
    (sym c.in_default.is ∙ c.in_ok-next.ensures.next at c.loop-left.walk.path within)
    (c.loop-left.invariant.left t at paths so w h)

pub walk_turns-returns-in-Some-2-clause-inside : goal.walk_turns-returns-in-Some-2-clause-inside
walk_turns-returns-in-Some-2-clause-inside z c =
    c.in_ok-walk_turn.ensures.inside ∙ c.in_ok-next.ensures.inside ∙ c.loop-left.invariant.inside

pub walk_turns-returns-in-Some-2-clause-path : goal.walk_turns-returns-in-Some-2-clause-path
walk_turns-returns-in-Some-2-clause-path z c = c.in_ok-walk_turn.ensures.path ∙ c.loop-left.invariant.path

pub walk_turns-returns-in-Some-2-clause-walked : goal.walk_turns-returns-in-Some-2-clause-walked
walk_turns-returns-in-Some-2-clause-walked z c t at paths so w h =
    let ms = c.args.source.now.modules.now in
    let inner = module_walk is_valued c.args.source.now.fuel ms in
    let head = c.args.head.now in
    let b = block c.args.block.now in
    let positive : 0 < c.loop-left.left = omega (arith, c.loop-left-test.true) in
    let within : IsWithin c.loop-left.inside c.loop-left.walk.path at =
    within_again c.args.inside.now c.loop-left.inside c.args.walk.now.path c.loop-left.walk.path at
    c.loop-left.invariant.inside c.loop-left.invariant.path h.within in
    let body : Const → List Step = λ v. turn_walk is_valued ms inner b (turn_place at head.variable v) (paths v) in
    subst (AreWalked ms t c.walk_turn.new.walk.totals (loop_walk is_valued head at body)) c.in-Some-2.is
    (turns_stop ms t (loop_walk is_valued head at body) (goes_on head at.scopes) (next_turn head at.scopes) body
    c.loop-left.walk.totals c.walk_turn.new.walk.totals c.loop-left.left c.loop-left.value c.in-Some.next
    c.in_ok-walk_turn.field-0 positive
    (sym c.in-Some.is ∙ c.in_ok-next.ensures.next at c.loop-left.walk.path within)
    (ap is_some c.in-Some-2.is)
    (c.loop-left.invariant.left t at paths so w h)
    (λ k totals. c.in_ok-walk_turn.ensures.walked k at (paths c.loop-left.value)
    (record { formed = so.formed; totals = totals }) w
    (within_again c.loop-left.inside c.next_value.new.inside c.loop-left.walk.path c.loop-left.walk.path at
    c.in_ok-next.ensures.inside refl within)
    (reached_again c.args.here.now c.loop-left.here at c.loop-left.invariant.here h.known.parameters)))

pub walk_turns-returns-clause-inside : goal.walk_turns-returns-clause-inside
walk_turns-returns-clause-inside z c = c.loop-left.invariant.inside

pub walk_turns-returns-clause-path : goal.walk_turns-returns-clause-path
walk_turns-returns-clause-path z c = c.loop-left.invariant.path

pub walk_turns-returns-clause-walked : goal.walk_turns-returns-clause-walked
walk_turns-returns-clause-walked z c t at paths so w h =
    let ms = c.args.source.now.modules.now in
    let inner = module_walk is_valued c.args.source.now.fuel ms in
    let head = c.args.head.now in
    let body : Const → List Step = λ v.
    turn_walk is_valued ms inner (block c.args.block.now) (turn_place at head.variable v) (paths v) in
    let none : c.loop-left.left ≡ 0 = grind (arith, common_steps) in
    turns_gone ms t (loop_walk is_valued head at body) (goes_on head at.scopes) (next_turn head at.scopes) body
    c.loop-left.walk.totals c.loop-left.left c.loop-left.value none (c.loop-left.invariant.left t at paths so w h)

pub walk_turns-returns-in_default-clause-here : goal.walk_turns-returns-in_default-clause-here
walk_turns-returns-in_default-clause-here z c = c.loop-left.invariant.here

pub walk_turns-returns-in-Some-2-clause-here : goal.walk_turns-returns-in-Some-2-clause-here
walk_turns-returns-in-Some-2-clause-here z c =
    same_reached c.args.here.now c.loop-left.here c.walk_turn.new.reached c.in_ok-walk_turn.ensures.reached
    c.loop-left.invariant.here

pub walk_turns-returns-clause-here : goal.walk_turns-returns-clause-here
walk_turns-returns-clause-here z c = c.loop-left.invariant.here

pub walk_turn-returns-clause-inside : goal.walk_turn-returns-clause-inside
walk_turn-returns-clause-inside z c =
    let r = c.args.reached.now in
    turn_left c.args.inside.now c.enter.new.inside c.walk_scope.new.inside c.leave.new.inside r c.args.head.now
    c.args.value c.in_ok-enter.ensures c.in_ok-fault.ensures.inside
    (c.leave.ensures r c.args.inside.now.around
    (turn_around c.args.inside.now c.enter.new.inside c.walk_scope.new.inside r c.args.head.now c.args.value
    c.in_ok-enter.ensures c.in_ok-fault.ensures.inside)).1

pub walk_turn-returns-clause-reached : goal.walk_turn-returns-clause-reached
walk_turn-returns-clause-reached z c =
    let r = c.args.reached.now in
    (c.leave.ensures r c.args.inside.now.around
    (turn_around c.args.inside.now c.enter.new.inside c.walk_scope.new.inside r c.args.head.now c.args.value
    c.in_ok-enter.ensures c.in_ok-fault.ensures.inside)).0

pub walk_turn-returns-then-is_some-clause-inside : goal.walk_turn-returns-then-is_some-clause-inside
walk_turn-returns-then-is_some-clause-inside z c = refl

pub walk_turn-returns-then-is_some-clause-path : goal.walk_turn-returns-then-is_some-clause-path
walk_turn-returns-then-is_some-clause-path z c = c.begin_block-own.ensures.path

pub walk_turn-returns-then-is_some-clause-reached : goal.walk_turn-returns-then-is_some-clause-reached
walk_turn-returns-then-is_some-clause-reached z c = refl

pub walk_turn-returns-then-is_some-clause-walked : goal.walk_turn-returns-then-is_some-clause-walked
walk_turn-returns-then-is_some-clause-walked z c t at text so w h k =
    let ms = c.args.source.now.modules.now in
    let place : Place = turn_place at c.args.head.now.variable c.args.value in
    turn_stops ms c.args.source.now.fuel (block c.args.block.now) place text t c.begin_block-own.new.walk.totals
    c.begin_block-own.result (sym c.is_some.ensures ∙ c.if-is_some.true)
    (c.begin_block-own.ensures.walked ms t place so.totals)

pub walk_turn-returns-clause-walked : goal.walk_turn-returns-clause-walked
walk_turn-returns-clause-walked z c t at text so w h k =
    let ms = c.args.source.now.modules.now in
    let fuel = c.args.source.now.fuel in
    let b = block c.args.block.now in
    let xs = items c.items_of.result.now in
    let place : Place = turn_place at c.args.head.now.variable c.args.value in
    turn_walked ms fuel b place t c.begin_block-own.new.walk.totals c.walk_scope.new.walk.totals c.begin_block-own.result
    c.in_ok-fault.fault (sym c.is_some.ensures ∙ c.if-is_some.false)
    (c.begin_block-own.ensures.walked ms t place so.totals) xs text c.items_of.ensures
    (λ before totals. c.in_ok-fault.ensures.walked before place text (record { formed = so.formed; totals = totals })
    (items_formed ms fuel b xs c.items_of.ensures w)
    (subst (λ path. IsHanded c.enter.new.inside path place) (sym c.begin_block-own.ensures.path)
    (subst (λ i. IsHanded i c.args.walk.now.path place) (sym c.in_ok-enter.ensures)
    (turn_handed c.args.inside.now c.args.walk.now.path at h c.args.head.now c.args.value c.args.reached.now k))))

-- ---- a block, behind what stands before it

pub walk_inner-returns-clause-inside : goal.walk_inner-returns-clause-inside
walk_inner-returns-clause-inside z c =
    let handed = c.in_ok-hand_over.ensures.names in
    let walked = ap (λ (i : Inside). i.around) c.in_ok-fault.ensures.inside ∙ handed in
    around_again c.args.inside.now c.walk_scope.new.inside c.hand_over.new.around c.take_back.new.around
    c.in_ok-fault.ensures.inside (c.take_back.ensures c.args.here.now.reached c.args.inside.now.around walked).1

pub walk_inner-returns-clause-here : goal.walk_inner-returns-clause-here
walk_inner-returns-clause-here z c =
    let handed = c.in_ok-hand_over.ensures.names in
    let walked = ap (λ (i : Inside). i.around) c.in_ok-fault.ensures.inside ∙ handed in
    ap (λ r. record c.args.here.now { reached = r })
    (c.take_back.ensures c.args.here.now.reached c.args.inside.now.around walked).0

pub walk_inner-walk_scope-requires : goal.walk_inner-walk_scope-requires
walk_inner-walk_scope-requires z c = (omega arith, c.requires)

pub walk_inner-returns-clause-path : goal.walk_inner-returns-clause-path
walk_inner-returns-clause-path z c = c.in_ok-fault.ensures.path

pub walk_inner-returns-clause-walked : goal.walk_inner-returns-clause-walked
walk_inner-returns-clause-walked z c t at text so w h =
    c.in_ok-fault.ensures.walked t at text so w
    (block_handed c.args.inside.now c.args.here.now c.args.walk.now.path at c.hand_over.new.around h
    c.in_ok-hand_over.ensures.names)

pub walk_scope-returns-clause-inside : goal.walk_scope-returns-clause-inside
walk_scope-returns-clause-inside z c =
    scope_left c.args.inside.now c.enter_scope.new.inside c.walk_items.new.inside c.leave.new.inside
    c.in_ok-here.ensures.names c.in_ok-here.ensures.numbers c.in_ok-here.ensures.clocks c.in_ok-here.ensures.around
    c.in_ok-fault.ensures.inside c.leave.ensures

pub walk_scope-returns-clause-walked : goal.walk_scope-returns-clause-walked
walk_scope-returns-clause-walked z c t at text so w h =
    c.in_ok-fault.ensures.walked t (block_place at text (items c.args.all.now)) 1 so w
    (c.in_ok-here.ensures.here at c.args.walk.now.path text h w)

-- ---- instances

pub walk_module-returns-then-is_some-clause-walked : goal.walk_module-returns-then-is_some-clause-walked
walk_module-returns-then-is_some-clause-walked z c t at text so w e h =
    let u = use_of (is_valued at) at.scopes c.args.instance.now in
    opening_stops c.args.source.now.modules.now c.args.source.now.fuel at c.args.instance.now c.args.module.now u text t
    c.open.new.walk.totals c.in_ok-fault.fault (sym c.is_some.ensures ∙ c.if-is_some.true)
    (c.in_ok-fault.ensures.walked c.args.source.now.modules.now t at u text at.modules c.args.walk.now.path so.totals h
    (λ other. c.in_ok-used.ensures.here at other c.args.walk.now.path h w e))

pub walk_module-returns-clause-walked : goal.walk_module-returns-clause-walked
walk_module-returns-clause-walked z c t at text so w e h =
    let u = use_of (is_valued at) at.scopes c.args.instance.now in
    let m = c.args.module.now in
    let passed = sym c.is_some.ensures ∙ c.if-is_some.false in
    opening_passes c.args.source.now.modules.now c.args.source.now.fuel at c.args.instance.now m u text t c.open.new.walk.totals
    c.walk_items.new.walk.totals c.in_ok-fault.fault c.in_ok-walk_items.field-0 passed
    (c.in_ok-fault.ensures.walked c.args.source.now.modules.now t at u text at.modules c.args.walk.now.path so.totals h
    (λ other. c.in_ok-used.ensures.here at other c.args.walk.now.path h w e))
    (λ b totals.
    subst (λ xs. AreWalked c.args.source.now.modules.now b c.walk_items.new.walk.totals
    (items_walk is_valued c.args.source.now.modules.now (module_walk is_valued c.args.source.now.fuel c.args.source.now.modules.now) (items xs)
    (behind_head (module_place m u text at.modules) m) 1) c.in_ok-walk_items.field-0) c.as_slice.ensures
    (c.in_ok-walk_items.ensures.walked b (behind_head (module_place m u text at.modules) m) 1
    (record { formed = so.formed; totals = totals })
    (subst (λ xs. AreWellFormed (items xs)) (sym c.as_slice.ensures) w.4)
    (c.in_ok-fault.ensures.here (none_of c.in_ok-fault.fault passed) u text at.modules c.open.new.walk.path
    (c.in_ok-used.ensures.here at text c.open.new.walk.path h w (c.in_ok-fault.ensures.path ∙ e)))))

pub walk_instance-returns-in_default-clause-walked : goal.walk_instance-returns-in_default-clause-walked
walk_instance-returns-in_default-clause-walked z c t at so free h =
    unnamed_walked c.args.source.now.modules.now c.args.source.now.fuel at c.args.instance.now t c.args.walk.now.totals
    (sym (sym (ap option_copied c.in_default.is) ∙ c.find.ensures)) so.totals

pub walk_instance-returns-then-source-eq0-clause-walked : goal.walk_instance-returns-then-source-eq0-clause-walked
walk_instance-returns-then-source-eq0-clause-walked z c t at so free h =
    deep_walked c.args.source.now.modules.now c.args.source.now.fuel at c.args.instance.now c.in-Some.module.now (sym c.in-Some.ensures) t
    c.args.walk.now.totals c.if-source-eq0.true so.totals

pub walk_instance-returns-then-is_bare-clause-walked : goal.walk_instance-returns-then-is_bare-clause-walked
walk_instance-returns-then-is_bare-clause-walked z c t at so free h =
    let positive : 0 < c.args.source.now.fuel = grind (arith, c.if-source-eq0.false) in
    bare_walked c.args.source.now.modules.now c.args.source.now.fuel at c.args.instance.now c.in-Some.module.now (sym c.in-Some.ensures) t
    c.args.walk.now.totals c.is_bare.result positive c.is_bare.ensures c.if-is_bare.true so.totals

pub walk_instance-returns-then-contains-clause-walked : goal.walk_instance-returns-then-contains-clause-walked
walk_instance-returns-then-contains-clause-walked z c t at so free h =
    let m = c.in-Some.module.now in
    absurd (true≢false (sym (sym c.contains.ensures ∙ c.if-contains.true)
    ∙ ap (λ p. contains_name p m.name) h.modules
    ∙ not_around c.args.source.now.modules.now c.args.source.now.fuel at c.args.instance.now m (sym c.in-Some.ensures) free))

pub walk_instance-returns-clause-path : goal.walk_instance-returns-clause-path
walk_instance-returns-clause-path z c =
    c.pop.ensures c.args.walk.now.path c.in-Some.module.now.name
    (c.in_ok-fault.ensures.path ∙ c.in_ok-enter.ensures.ok)

pub walk_instance-returns-clause-walked : goal.walk_instance-returns-clause-walked
walk_instance-returns-clause-walked z c t at so free h =
    let ms = c.args.source.now.modules.now in
    let x = c.args.instance.now in
    let m = c.in-Some.module.now in
    let named : module_named ms x.definition ≡ Some m = sym c.in-Some.ensures in
    let positive : 0 < c.args.source.now.fuel = grind (arith, c.if-source-eq0.false) in
    module_walked ms c.args.source.now.fuel at x m named t c.walk_module.new.walk.totals c.in_ok-fault.fault positive
    (λ text. c.in_ok-fault.ensures.walked t at text so ((named_is ms x.definition m named).formed so.formed)
    (c.in_ok-enter.ensures.ok ∙ ap (λ texts. texts ++ m.name ∷ []) h.modules)
    (record { stands = h.stands; around = h.around; modules = refl }))

-- ---- what each call asks for

pub walk_items-walk_one-requires : goal.walk_items-walk_one-requires
walk_items-walk_one-requires z c =
    let xs = c.args.all.now in
    let i = c.loop-part.part-index in
    let x = c.part-item.result in
    let front : drop i xs ≡ x ∷ drop (i + 1) xs = grind (arith, common_steps) in
    let low : depth x ≤ items_depth (items xs) = part_depth i xs x (drop (i + 1) xs) front in
    (omega (arith, low), (c.requires.table, c.loop-part.invariant.scope))

pub walk_one-walk_item-requires-clause-table : goal.walk_one-walk_item-requires-clause-table
walk_one-walk_item-requires-clause-table z c = c.requires.table

pub walk_one-walk_item-requires-clause-scope : goal.walk_one-walk_item-requires-clause-scope
walk_one-walk_item-requires-clause-scope z c = c.requires.scope

pub walk_one-walk_within-requires : goal.walk_one-walk_within-requires
walk_one-walk_within-requires z c =
    (omega arith, (c.requires.table, subst HasScope (sym c.in_ok-fault.ensures.inside) c.requires.scope))

pub walk_one-returns-then-is_some-clause-inside : goal.walk_one-returns-then-is_some-clause-inside
walk_one-returns-then-is_some-clause-inside z c = c.in_ok-fault.ensures.inside

pub walk_one-returns-then-is_some-clause-path : goal.walk_one-returns-then-is_some-clause-path
walk_one-returns-then-is_some-clause-path z c = c.in_ok-fault.ensures.path

pub walk_one-returns-then-is_some-clause-here : goal.walk_one-returns-then-is_some-clause-here
walk_one-returns-then-is_some-clause-here z c = c.in_ok-fault.ensures.here

pub walk_one-returns-clause-path : goal.walk_one-returns-clause-path
walk_one-returns-clause-path z c = c.in_ok-walk_within.ensures.path ∙ c.in_ok-fault.ensures.path

pub walk_within-walk_instance-requires : goal.walk_within-walk_instance-requires
walk_within-walk_instance-requires z c = (omega arith, c.requires.table)

pub walk_within-walk_turns-requires : goal.walk_within-walk_turns-requires
walk_within-walk_turns-requires z c =
    let a = c.part.inside.attributes in
    let p = c.part.inside.pos in
    let b = block c.in-For.block in
    let same : for_loop a p c.in-For.head b ≡ c.args.part.now = ap (shown a p) (sym c.in-For.is) ∙ c.part.view_is in
    let deep : block_depth b + 1 ≡ depth c.args.part.now = ap depth same in
    (omega (arith, deep), c.requires.table)

pub walk_within-walk_if-requires : goal.walk_within-walk_if-requires
walk_within-walk_if-requires z c =
    let a = c.part.inside.attributes in
    let p = c.part.inside.pos in
    let same : shown a p (kind.If c.in-If.condition c.in-If.first c.in-If.second) ≡ c.args.part.now =
    ap (shown a p) (sym c.in-If.is) ∙ c.part.view_is in
    let deep : depth (shown [] nowhere (kind.If c.in-If.condition c.in-If.first c.in-If.second))
    ≡ depth c.args.part.now =
    sym (if_depth a p c.in-If.condition c.in-If.first c.in-If.second) ∙ ap depth same in
    (omega (arith, deep), (c.requires.table, c.requires.scope))

pub walk_within-returns-in_ok-walk_instance-in-Instance-clause-inside :
    goal.walk_within-returns-in_ok-walk_instance-in-Instance-clause-inside
walk_within-returns-in_ok-walk_instance-in-Instance-clause-inside z c = refl

pub walk_within-returns-in_ok-walk_instance-in-Instance-clause-path :
    goal.walk_within-returns-in_ok-walk_instance-in-Instance-clause-path
walk_within-returns-in_ok-walk_instance-in-Instance-clause-path z c = c.in_ok-walk_instance-in-Instance.ensures.path

pub walk_within-returns-in_ok-walk_turns-in-For-clause-inside :
    goal.walk_within-returns-in_ok-walk_turns-in-For-clause-inside
walk_within-returns-in_ok-walk_turns-in-For-clause-inside z c = c.in_ok-walk_turns-in-For.ensures.inside

pub walk_within-returns-in_ok-walk_turns-in-For-clause-path :
    goal.walk_within-returns-in_ok-walk_turns-in-For-clause-path
walk_within-returns-in_ok-walk_turns-in-For-clause-path z c = c.in_ok-walk_turns-in-For.ensures.path

pub walk_within-returns-in_ok-walk_if-in-If-clause-inside : goal.walk_within-returns-in_ok-walk_if-in-If-clause-inside
walk_within-returns-in_ok-walk_if-in-If-clause-inside z c = c.in_ok-walk_if-in-If.ensures.inside

pub walk_within-returns-in_ok-walk_if-in-If-clause-path : goal.walk_within-returns-in_ok-walk_if-in-If-clause-path
walk_within-returns-in_ok-walk_if-in-If-clause-path z c = c.in_ok-walk_if-in-If.ensures.path

pub walk_within-returns-in_ok-walk_if-in-If-clause-here : goal.walk_within-returns-in_ok-walk_if-in-If-clause-here
walk_within-returns-in_ok-walk_if-in-If-clause-here z c = c.in_ok-walk_if-in-If.ensures.here

pub walk_if-walk_block-requires : goal.walk_if-walk_block-requires
walk_if-walk_block-requires z c =
    let b = block c.in-Some.block.now in
    let some : Some b ≡ chosen_by c.in_ok-holds.holds (block c.args.first.now) (option_map block c.args.second.now) =
    c.in-Some.ensures in
    let low : block_depth b + 1
    ≤ depth (shown [] nowhere (kind.If c.args.condition.now c.args.first.now c.args.second.now)) =
    (by_is [] nowhere c.args.condition.now c.args.first.now c.args.second.now c.in_ok-holds.holds b some).falls in
    (omega (arith, low), (c.requires.table, c.requires.scope))

pub walk_if-returns-in-None-clause-inside : goal.walk_if-returns-in-None-clause-inside
walk_if-returns-in-None-clause-inside z c = refl

pub walk_if-returns-in-None-clause-path : goal.walk_if-returns-in-None-clause-path
walk_if-returns-in-None-clause-path z c = refl

pub walk_if-returns-in-None-clause-here : goal.walk_if-returns-in-None-clause-here
walk_if-returns-in-None-clause-here z c at h = h

pub walk_if-returns-in_ok-walk_block-in-Some-clause-inside : goal.walk_if-returns-in_ok-walk_block-in-Some-clause-inside
walk_if-returns-in_ok-walk_block-in-Some-clause-inside z c = c.in_ok-walk_block-in-Some.ensures.inside

pub walk_if-returns-in_ok-walk_block-in-Some-clause-path : goal.walk_if-returns-in_ok-walk_block-in-Some-clause-path
walk_if-returns-in_ok-walk_block-in-Some-clause-path z c = c.in_ok-walk_block-in-Some.ensures.path

pub walk_if-returns-in_ok-walk_block-in-Some-clause-here : goal.walk_if-returns-in_ok-walk_block-in-Some-clause-here
walk_if-returns-in_ok-walk_block-in-Some-clause-here z c = c.in_ok-walk_block-in-Some.ensures.here

pub walk_block-walk_inner-requires : goal.walk_block-walk_inner-requires
walk_block-walk_inner-requires z c =
    let b = block c.args.block.now in
    let xs = items c.items_of.result.now in
    let low : items_depth xs ≤ block_depth b = slice_depth b xs c.items_of.ensures in
    (omega (arith, low), c.requires.table)

pub walk_block-walk_one-requires : goal.walk_block-walk_one-requires
walk_block-walk_one-requires z c =
    let b = block c.args.block.now in
    let x = c.in-Some.part.now in
    let low : depth x ≤ block_depth b = (nested_is b x (sym c.in-Some.ensures)).falls in
    (omega (arith, low), (c.requires.table, c.requires.scope))

pub walk_turns-walk_turn-requires : goal.walk_turns-walk_turn-requires
walk_turns-walk_turn-requires z c = (omega arith, c.requires)

pub walk_turn-walk_scope-requires : goal.walk_turn-walk_scope-requires
walk_turn-walk_scope-requires z c =
    let b = block c.args.block.now in
    let xs = items c.items_of.result.now in
    let low : items_depth xs ≤ block_depth b = slice_depth b xs c.items_of.ensures in
    (omega (arith, low), c.requires)

pub walk_turn-returns-clause-path : goal.walk_turn-returns-clause-path
walk_turn-returns-clause-path z c = c.in_ok-fault.ensures.path ∙ c.begin_block-own.ensures.path

pub walk_scope-walk_items-requires : goal.walk_scope-walk_items-requires
walk_scope-walk_items-requires z c = (omega arith, (c.requires, c.in_ok-here.ensures.scope))

pub walk_scope-returns-clause-path : goal.walk_scope-returns-clause-path
walk_scope-returns-clause-path z c = c.in_ok-fault.ensures.path

pub walk_instance-find-requires : goal.walk_instance-find-requires
walk_instance-find-requires z c = c.requires

pub walk_instance-enter-requires : goal.walk_instance-enter-requires
walk_instance-enter-requires z c = sym c.contains.ensures ∙ c.if-contains.false

pub walk_instance-walk_module-requires : goal.walk_instance-walk_module-requires
walk_instance-walk_module-requires z c =
    let ms = c.args.source.now.modules.now in
    let m = c.in-Some.module.now in
    let positive : 0 < c.args.source.now.fuel = grind (arith, c.if-source-eq0.false) in
    let low = module_below c.args.source.now.fuel (deepest ms) (items_depth (items m.items)) positive
    (named_is ms c.args.instance.now.definition m (sym c.in-Some.ensures)).falls in
    (omega (arith, low), c.requires)

pub walk_instance-returns-in_default-clause-path : goal.walk_instance-returns-in_default-clause-path
walk_instance-returns-in_default-clause-path z c = refl

pub walk_instance-returns-then-source-eq0-clause-path : goal.walk_instance-returns-then-source-eq0-clause-path
walk_instance-returns-then-source-eq0-clause-path z c = refl

pub walk_instance-returns-then-is_bare-clause-path : goal.walk_instance-returns-then-is_bare-clause-path
walk_instance-returns-then-is_bare-clause-path z c = refl

pub walk_instance-returns-then-contains-clause-path : goal.walk_instance-returns-then-contains-clause-path
walk_instance-returns-then-contains-clause-path z c = refl

pub walk_module-walk_items-requires : goal.walk_module-walk_items-requires
walk_module-walk_items-requires z c =
    let low : items_depth (items c.as_slice.result.now) ≡ items_depth (items c.args.module.now.items) =
    ap (λ xs. items_depth (items xs)) c.as_slice.ensures in (
      omega (arith, low),
      (
        c.requires,
        scope_again c.in_ok-used.used.inside c.open.new.used.inside
            c.in_ok-fault.ensures.numbers c.in_ok-used.ensures.scope,
      ),
    )

pub walk_module-returns-then-is_some-clause-path : goal.walk_module-returns-then-is_some-clause-path
walk_module-returns-then-is_some-clause-path z c = c.in_ok-fault.ensures.path

pub walk_module-returns-clause-path : goal.walk_module-returns-clause-path
walk_module-returns-clause-path z c = c.in_ok-walk_items.ensures.path ∙ c.in_ok-fault.ensures.path

pub walk_instance-overflow_sub-inner : goal.walk_instance-overflow_sub-inner
walk_instance-overflow_sub-inner z c = omega (arith, c.if-source-eq0.false)

pub walk_turns-overflow_sub-left : goal.walk_turns-overflow_sub-left
walk_turns-overflow_sub-left z c = omega (arith, c.loop-left-test.true)

pub walk_turns-loop-left-smaller : goal.walk_turns-loop-left-smaller
walk_turns-loop-left-smaller z c = omega (arith, c.loop-left-test.true)

-- ---- measures of loops

pub walk_items-loop-part-smaller : goal.walk_items-loop-part-smaller
walk_items-loop-part-smaller z c = grind (arith, common_steps)

pub walk_items-offset_bounds-all-part-index : goal.walk_items-offset_bounds-all-part-index
walk_items-offset_bounds-all-part-index z c = search rules
