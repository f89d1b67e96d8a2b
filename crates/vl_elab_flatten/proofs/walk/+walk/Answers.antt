use Rattle.std.proofs.Common.{◌≡◌, ◌+◌, ◌-◌, ◌<◌, ◌≤◌, ◌∷◌, ◌++◌, [], refl, inl, inr, ap, sym, ◌∙◌, subst, drop}
use Rattle.std.proofs.Common.{arith}
use Rattle.std.specs.Prelude.{List, Some, None, codes}
use Rattle.std.specs.Option.{option_copied, option_map}
use Rattle.std.proofs.lemmas.Grind.{common_steps}
use Rattle.std.proofs.lemmas.Result.{on_ok_weaker}
use Rattle.vl_tree.specs.declared.item.ItemKind.TheVariants as kind
use Rattle.vl_tree.specs.Item.{Item, declaration, integer, genvar, parameter, assign, always, initial, instance}
use Rattle.vl_tree.specs.Item.{generate, for_loop, items, items_depth, block_depth, depth}
use Rattle.vl_tree.specs.ItemView.{block, shown}
use Rattle.vl_mean.specs.Declarations.{block_name, constructs, declared, declared_by, label_of}
use Rattle.vl_mean.specs.Walk.{has_any}
use Rattle.vl_mean.specs.Walk.{block_step, goes_on, module_named, next_turn, turn_path, turn_place, turns, use_of}
use Rattle.vl_elab_spec.specs.Refused.{nowhere}
use Rattle.vl_elab_const.specs.Numbers.{HaveNumbers}
use Rattle.vl_mean_flat.specs.Seen.{seen_step, seen_steps}
use Rattle.vl_elab_spec.specs.Within.{chosen_block, deepest, nested_if}
use Rattle.vl_elab_spec.proofs.Inner.{chosen_is, nested_is}
use Rattle.vl_elab_spec.proofs.Unfolded.{named_is}
use Rattle.vl_elab_const.specs.Openable.{IsOpenable}
use Rattle.vl_elab_flatten.specs.declared.here.Here.{Here}
use Rattle.vl_elab_flatten.specs.Here.{around_of, block_scope, place_in}
use Rattle.vl_elab_emit.specs.Behind.{StandBehind}
use Rattle.vl_elab_flatten.specs.Ready.{IsReady, IsTurn, Writes, block_seen, inner_seen, instance_seen, item_seen}
use Rattle.vl_elab_flatten.specs.Ready.{items_seen}
use Rattle.vl_elab_flatten.specs.Ready.{opened_seen, place_of, scope_seen, turn_body, turn_seen, turns_seen}
use Rattle.vl_elab_flatten.proofs.Depths.{module_falls, part_falls, slice_falls}
use Rattle.vl_elab_flatten.proofs.Items.{begun, block_nested, block_scoped, if_alike, if_falls, inner_ready}
use Rattle.vl_elab_flatten.proofs.Items.{item_written}
use Rattle.vl_elab_flatten.proofs.Items.{items_left, nothing_within}
use Rattle.vl_elab_flatten.proofs.Items.{both_declared, nested_declares, none_chosen, own_may}
use Rattle.vl_elab_flatten.proofs.Items.{some_chosen, some_goes, some_next, turn_scoped, turns_on, turns_stopped}
use Rattle.vl_elab_flatten.proofs.Opening.{block_opens}
use Rattle.vl_elab_flatten.proofs.Places.{block_here, same_here, turn_scope}
use Rattle.vl_elab_flatten.proofs.Seens.{behind_block, Left, fails, left_all, left_none, left_on, ready_first, writes_nothing}
use Rattle.vl_elab_flatten.proofs.Unfolding.{instance_opens, instance_written, none_found, opened_declares}
use Rattle.vl_elab_flatten.proofs.Unfolding.{opened_ready, opened_written, ports_may, too_deep, within_ready}
use Rattle.vl_elab_flatten.proofs.Values.{next_bounded}
use Rattle.vl_elab_flatten.proofs.walk.+walk.Goals as goal

-- ---- the items of a scope

pub write_items-loop-part-init : goal.write_items-loop-part-init
write_items-loop-part-init z c = record {
  here = refl;
  declares = c.requires.declared;
  few = omega arith;
  left = left_all c.args.draft.now
      (items_seen c.args.source.now.modules.now c.args.source.now.depth (items c.args.all.now) (place_of c.args.here.now) 1)
      c.requires.ready;
}

pub write_items-write_one-requires : goal.write_items-write_one-requires
write_items-write_one-requires z c =
    let ms = c.args.source.now.modules.now in
    let d = c.args.source.now.depth in
    let at = place_of c.args.here.now in
    let xs = c.args.all.now in
    let i = c.loop-part.part-index in
    let x = c.part-item.result in
    let n = c.loop-part.number in
    let front : drop i xs ≡ x ∷ drop (i + 1) xs = grind (arith, common_steps) in
    let low : depth x ≤ items_depth (items xs) = part_falls i xs x (drop (i + 1) xs) front in
    let ss = around_of c.args.here.now.scopes in
    let own : c.split_declared.result.0.now ≡ declared_by ss x =
    c.split_declared.ensures.own ss (declared ss (items (drop (i + 1) xs)))
    (both_declared ss (drop i xs) (drop (i + 1) xs) x c.loop-part.rest.now front c.loop-part.invariant.declares) in
    let ready : IsReady c.loop-part.draft (item_seen ms d x at n) =
    ready_first c.loop-part.draft (items_seen ms d (items (drop i xs)) at n) (item_seen ms d x at n)
    (items_seen ms d (items (drop (i + 1) xs)) at (n + constructs x))
    (items_left ms d (drop i xs) (drop (i + 1) xs) x at n front) c.loop-part.invariant.left.ready in (
      omega (arith, low),
      (
        c.requires.table,
        (
          subst (λ (h : Here). HaveNumbers h.numbers h.scopes) (sym c.loop-part.invariant.here)
              c.requires.numbers,
          (
            subst (λ (h : Here). c.split_declared.result.0.now ≡ declared_by (around_of h.scopes) x)
                (sym c.loop-part.invariant.here) own,
            subst (λ (h : Here). IsReady c.loop-part.draft (item_seen ms d x (place_of h) n))
                (sym c.loop-part.invariant.here) ready,
          ),
        ),
      ),
    )

pub write_items-loop-part-preserved : goal.write_items-loop-part-preserved
write_items-loop-part-preserved z c =
    let ms = c.args.source.now.modules.now in
    let d = c.args.source.now.depth in
    let at = place_of c.args.here.now in
    let xs = c.args.all.now in
    let i = c.loop-part.part-index in
    let x = c.part-item.result in
    let n = c.loop-part.number in
    let front : drop i xs ≡ x ∷ drop (i + 1) xs = grind (arith, common_steps) in
    let ss = around_of c.args.here.now.scopes in
    let all = items_seen ms d (items xs) at 1 in
    let rest = items (drop (i + 1) xs) in
    let written : Writes c.loop-part.draft (item_seen ms d x at n) c.write_one.new.draft =
    subst (λ (h : Here). Writes c.loop-part.draft (item_seen ms d x (place_of h) n) c.write_one.new.draft)
    c.loop-part.invariant.here c.in_ok-write_one.ensures.written in
    record {
      here = c.in_ok-write_one.ensures.here ∙ c.loop-part.invariant.here;
      declares = c.split_declared.ensures.rest ss (declared ss rest)
          (both_declared ss (drop i xs) (drop (i + 1) xs) x c.loop-part.rest.now front c.loop-part.invariant.declares);
      few = omega (arith, c.loop-part.invariant.few, c.constructs-number.ensures.few);
      left = subst (λ k. Left c.args.draft.now all c.write_one.new.draft (items_seen ms d rest at (n + k)))
          (sym c.constructs-number.ensures.value)
          (left_on c.args.draft.now all c.loop-part.draft c.write_one.new.draft
          (items_seen ms d (items (drop i xs)) at n) (item_seen ms d x at n)
          (items_seen ms d rest at (n + constructs x))
          (items_left ms d (drop i xs) (drop (i + 1) xs) x at n front) c.loop-part.invariant.left written);
    }

pub write_items-returns-clause-here : goal.write_items-returns-clause-here
write_items-returns-clause-here z c = c.loop-part.invariant.here

pub write_items-returns-clause-written : goal.write_items-returns-clause-written
write_items-returns-clause-written z c =
    let ms = c.args.source.now.modules.now in
    let d = c.args.source.now.depth in
    let at = place_of c.args.here.now in
    let xs = c.args.all.now in
    let i = c.loop-part.part-index in
    let gone : drop i xs ≡ [] = grind (arith, common_steps) in
    left_none c.args.draft.now (items_seen ms d (items xs) at 1) c.loop-part.draft
    (items_seen ms d (items (drop i xs)) at c.loop-part.number)
    (ap (λ ys. items_seen ms d (items ys) at c.loop-part.number) gone) c.loop-part.invariant.left

-- ---- an item

pub write_one-write_item-requires : goal.write_one-write_item-requires
write_one-write_item-requires z c =
    own_may c.args.source.now.modules.now c.args.source.now.depth c.args.draft.now c.args.part.now (place_of c.args.here.now) c.args.number
    c.args.decls.now c.requires.declared c.requires.ready

pub write_one-write_within-requires : goal.write_one-write_within-requires
write_one-write_within-requires z c = (
  omega arith,
  (
    c.requires.table,
    (
      c.requires.numbers,
      inner_ready c.args.source.now.modules.now c.args.source.now.depth c.args.draft.now c.args.part.now (place_of c.args.here.now)
          c.args.number c.args.decls.now c.requires.declared c.requires.ready c.write_item.new.draft
          c.in_ok-write_item.ensures,
    ),
  ),
)

pub write_one-returns-clause-written : goal.write_one-returns-clause-written
write_one-returns-clause-written z c =
    on_ok_weaker c.write_within.result (λ h. item_written c.args.source.now.modules.now c.args.source.now.depth c.args.draft.now
    c.args.part.now (place_of c.args.here.now) c.args.number c.args.decls.now c.requires.declared c.requires.ready
    c.write_item.new.draft c.write_within.new.draft c.in_ok-write_item.ensures h) c.write_within.ensures.written

pub write_one-returns-clause-here : goal.write_one-returns-clause-here
write_one-returns-clause-here z c = c.write_within.ensures.here

-- ---- what is in an item

pub write_within-write_instance-requires : goal.write_within-write_instance-requires
write_within-write_instance-requires z c =
    let a = c.part.inside.attributes in
    let p = c.part.inside.pos in
    let same : instance a p c.in-Instance.instance ≡ c.args.part.now =
    ap (shown a p) (sym c.in-Instance.is) ∙ c.part.view_is in (
      omega arith,
      (
        c.requires.table,
        (
          c.requires.numbers,
          subst (λ (x : Item). IsReady c.args.draft.now
              (inner_seen c.args.source.now.modules.now c.args.source.now.depth x (place_of c.args.here.now) c.args.number)) (sym same)
              c.requires.ready,
        ),
      ),
    )

pub write_within-returns-in_ok-write_instance-in-Instance-clause-written :
    goal.write_within-returns-in_ok-write_instance-in-Instance-clause-written
write_within-returns-in_ok-write_instance-in-Instance-clause-written z c =
    let a = c.part.inside.attributes in
    let p = c.part.inside.pos in
    let same : instance a p c.in-Instance.instance ≡ c.args.part.now =
    ap (shown a p) (sym c.in-Instance.is) ∙ c.part.view_is in
    subst (λ (x : Item). Writes c.args.draft.now
    (inner_seen c.args.source.now.modules.now c.args.source.now.depth x (place_of c.args.here.now) c.args.number)
    c.write_instance.new.draft) same c.in_ok-write_instance-in-Instance.ensures

pub write_within-returns-in_ok-write_instance-in-Instance-clause-here :
    goal.write_within-returns-in_ok-write_instance-in-Instance-clause-here
write_within-returns-in_ok-write_instance-in-Instance-clause-here z c = refl

pub write_within-write_turns-requires : goal.write_within-write_turns-requires
write_within-write_turns-requires z c =
    let a = c.part.inside.attributes in
    let p = c.part.inside.pos in
    let b = block c.in-For.block in
    let same : for_loop a p c.in-For.head b ≡ c.args.part.now = ap (shown a p) (sym c.in-For.is) ∙ c.part.view_is in
    let deep : block_depth b + 1 ≡ depth c.args.part.now = ap depth same in (
      omega (arith, deep),
      (
        c.requires.table,
        (
          c.requires.numbers,
          subst (λ (x : Item). IsReady c.args.draft.now
              (inner_seen c.args.source.now.modules.now c.args.source.now.depth x (place_of c.args.here.now) c.args.number)) (sym same)
              c.requires.ready,
        ),
      ),
    )

pub write_within-returns-in_ok-write_turns-in-For-clause-written :
    goal.write_within-returns-in_ok-write_turns-in-For-clause-written
write_within-returns-in_ok-write_turns-in-For-clause-written z c =
    let a = c.part.inside.attributes in
    let p = c.part.inside.pos in
    let b = block c.in-For.block in
    let same : for_loop a p c.in-For.head b ≡ c.args.part.now = ap (shown a p) (sym c.in-For.is) ∙ c.part.view_is in
    subst (λ (x : Item). Writes c.args.draft.now
    (inner_seen c.args.source.now.modules.now c.args.source.now.depth x (place_of c.args.here.now) c.args.number)
    c.write_turns.new.draft) same c.in_ok-write_turns-in-For.ensures.written

pub write_within-returns-in_ok-write_turns-in-For-clause-here :
    goal.write_within-returns-in_ok-write_turns-in-For-clause-here
write_within-returns-in_ok-write_turns-in-For-clause-here z c = c.in_ok-write_turns-in-For.ensures.here

pub write_within-write_if-requires : goal.write_within-write_if-requires
write_within-write_if-requires z c =
    let a = c.part.inside.attributes in
    let p = c.part.inside.pos in
    let k = kind.If c.in-If.condition c.in-If.first c.in-If.second in
    let same : shown a p (kind.If c.in-If.condition c.in-If.first c.in-If.second) ≡ c.args.part.now =
    ap (shown a p) (sym c.in-If.is) ∙ c.part.view_is in
    let deep : depth (shown [] nowhere (kind.If c.in-If.condition c.in-If.first c.in-If.second))
    ≡ depth c.args.part.now =
    sym (if_falls a p c.in-If.condition c.in-If.first c.in-If.second) ∙ ap depth same in (
      omega (arith, deep),
      (
        c.requires.table,
        (
          c.requires.numbers,
          subst (IsReady c.args.draft.now)
              (ap (λ (x : Item). inner_seen c.args.source.now.modules.now c.args.source.now.depth x (place_of c.args.here.now) c.args.number)
              (sym same)
              ∙ if_alike c.args.source.now.modules.now c.args.source.now.depth a p [] nowhere c.in-If.condition c.in-If.first c.in-If.second
              (place_of c.args.here.now) c.args.number) c.requires.ready,
        ),
      ),
    )

pub write_within-returns-in_ok-write_if-in-If-clause-written :
    goal.write_within-returns-in_ok-write_if-in-If-clause-written
write_within-returns-in_ok-write_if-in-If-clause-written z c =
    let a = c.part.inside.attributes in
    let p = c.part.inside.pos in
    let same : shown a p (kind.If c.in-If.condition c.in-If.first c.in-If.second) ≡ c.args.part.now =
    ap (shown a p) (sym c.in-If.is) ∙ c.part.view_is in
    subst (λ xs. Writes c.args.draft.now xs c.write_if.new.draft)
    (if_alike c.args.source.now.modules.now c.args.source.now.depth [] nowhere a p c.in-If.condition c.in-If.first c.in-If.second
    (place_of c.args.here.now) c.args.number
    ∙ ap (λ (x : Item). inner_seen c.args.source.now.modules.now c.args.source.now.depth x (place_of c.args.here.now) c.args.number) same)
    c.in_ok-write_if-in-If.ensures.written

pub write_within-returns-in_ok-write_if-in-If-clause-here : goal.write_within-returns-in_ok-write_if-in-If-clause-here
write_within-returns-in_ok-write_if-in-If-clause-here z c = c.in_ok-write_if-in-If.ensures.here

pub write_within-returns-in-Declaration-clause-here : goal.write_within-returns-in-Declaration-clause-here
write_within-returns-in-Declaration-clause-here z c = refl

pub write_within-returns-in-Declaration-clause-written : goal.write_within-returns-in-Declaration-clause-written
write_within-returns-in-Declaration-clause-written z c =
    let ms = c.args.source.now.modules.now in
    let d = c.args.source.now.depth in
    let at = place_of c.args.here.now in
    let x = c.args.part.now in
    let a = c.part.inside.attributes in
    let p = c.part.inside.pos in
    let none : inner_seen ms d x at c.args.number ≡ [] =
    elim c.in-Declaration.is [
      | inl w ↦ nothing_within ms d (declaration a p w.0) x at c.args.number
          (ap (shown a p) (sym w.1) ∙ c.part.view_is) refl
      | inr r ↦ elim r [
        | inl w ↦ nothing_within ms d (integer a p w.0) x at c.args.number
            (ap (shown a p) (sym w.1) ∙ c.part.view_is) refl
        | inr w ↦ nothing_within ms d (genvar a p w.0) x at c.args.number
            (ap (shown a p) (sym w.1) ∙ c.part.view_is) refl
      ]
    ]
    in
    writes_nothing c.args.draft.now (inner_seen ms d x at c.args.number) none

pub write_within-returns-in-Parameter-clause-here : goal.write_within-returns-in-Parameter-clause-here
write_within-returns-in-Parameter-clause-here z c = refl

pub write_within-returns-in-Parameter-clause-written : goal.write_within-returns-in-Parameter-clause-written
write_within-returns-in-Parameter-clause-written z c =
    let ms = c.args.source.now.modules.now in
    let d = c.args.source.now.depth in
    let at = place_of c.args.here.now in
    let x = c.args.part.now in
    let a = c.part.inside.attributes in
    let p = c.part.inside.pos in
    let none : inner_seen ms d x at c.args.number ≡ [] =
    elim c.in-Parameter.is [
      | inl w ↦ nothing_within ms d (parameter a p w.0 w.1) x at c.args.number
          (ap (shown a p) (sym w.2) ∙ c.part.view_is) refl
      | inr r ↦ elim r [
        | inl w ↦ nothing_within ms d (assign a p w.0) x at c.args.number
            (ap (shown a p) (sym w.1) ∙ c.part.view_is) refl
        | inr w ↦ nothing_within ms d (always a p w.0 w.1) x at c.args.number
            (ap (shown a p) (sym w.2) ∙ c.part.view_is) refl
      ]
    ]
    in
    writes_nothing c.args.draft.now (inner_seen ms d x at c.args.number) none

pub write_within-returns-in-Initial-clause-here : goal.write_within-returns-in-Initial-clause-here
write_within-returns-in-Initial-clause-here z c = refl

pub write_within-returns-in-Initial-clause-written : goal.write_within-returns-in-Initial-clause-written
write_within-returns-in-Initial-clause-written z c =
    let ms = c.args.source.now.modules.now in
    let d = c.args.source.now.depth in
    let at = place_of c.args.here.now in
    let x = c.args.part.now in
    let a = c.part.inside.attributes in
    let p = c.part.inside.pos in
    let none : inner_seen ms d x at c.args.number ≡ [] =
    elim c.in-Initial.is [
      | inl w ↦ nothing_within ms d (initial a p w.0) x at c.args.number
          (ap (shown a p) (sym w.1) ∙ c.part.view_is) refl
      | inr w ↦ nothing_within ms d (generate a p w.0) x at c.args.number
          (ap (shown a p) (sym w.1) ∙ c.part.view_is) refl
    ]
    in
    writes_nothing c.args.draft.now (inner_seen ms d x at c.args.number) none

-- ---- an `if`

pub write_if-write_block-requires : goal.write_if-write_block-requires
write_if-write_block-requires z c =
    let b = block c.in-Some.block.now in
    let at = place_of c.args.here.now in
    let some : Some b ≡ chosen_block c.in_ok-holds.holds (block c.args.first.now) (option_map block c.args.second.now) =
    c.in-Some.ensures in
    let low : block_depth b + 1
    ≤ depth (shown [] nowhere (kind.If c.args.condition.now c.args.first.now c.args.second.now)) =
    (chosen_is [] nowhere c.args.condition.now c.args.first.now c.args.second.now c.in_ok-holds.holds b some).falls in (
      omega (arith, low),
      (
        c.requires.table,
        (
          c.requires.numbers,
          subst (IsReady c.args.draft.now)
              (some_chosen c.args.source.now.modules.now c.args.source.now.depth [] nowhere c.args.condition.now c.args.first.now
              c.args.second.now at c.args.number c.args.here.now.numbers c.requires.numbers c.in_ok-holds.holds
              c.in_ok-holds.ensures b some) c.requires.ready,
        ),
      ),
    )

pub write_if-returns-in-None-clause-written : goal.write_if-returns-in-None-clause-written
write_if-returns-in-None-clause-written z c =
    let at = place_of c.args.here.now in
    writes_nothing c.args.draft.now
    (inner_seen c.args.source.now.modules.now c.args.source.now.depth
    (shown [] nowhere (kind.If c.args.condition.now c.args.first.now c.args.second.now)) at c.args.number)
    (none_chosen c.args.source.now.modules.now c.args.source.now.depth [] nowhere c.args.condition.now c.args.first.now c.args.second.now at
    c.args.number c.args.here.now.numbers c.requires.numbers c.in_ok-holds.holds c.in_ok-holds.ensures
    (sym (ap (λ o. option_map block (option_copied o)) c.in-None.is) ∙ c.chosen.ensures))

pub write_if-returns-in-None-clause-here : goal.write_if-returns-in-None-clause-here
write_if-returns-in-None-clause-here z c = refl

pub write_if-returns-in_ok-write_block-in-Some-clause-written :
    goal.write_if-returns-in_ok-write_block-in-Some-clause-written
write_if-returns-in_ok-write_block-in-Some-clause-written z c =
    let b = block c.in-Some.block.now in
    let at = place_of c.args.here.now in
    let some : Some b ≡ chosen_block c.in_ok-holds.holds (block c.args.first.now) (option_map block c.args.second.now) =
    c.in-Some.ensures in
    subst (λ xs. Writes c.args.draft.now xs c.write_block.new.draft)
    (sym (some_chosen c.args.source.now.modules.now c.args.source.now.depth [] nowhere c.args.condition.now c.args.first.now
    c.args.second.now at c.args.number c.args.here.now.numbers c.requires.numbers c.in_ok-holds.holds
    c.in_ok-holds.ensures b some)) c.in_ok-write_block-in-Some.ensures.written

pub write_if-returns-in_ok-write_block-in-Some-clause-here :
    goal.write_if-returns-in_ok-write_block-in-Some-clause-here
write_if-returns-in_ok-write_block-in-Some-clause-here z c = c.in_ok-write_block-in-Some.ensures.here

-- ---- blocks

pub write_block-write_scope-requires : goal.write_block-write_scope-requires
write_block-write_scope-requires z c =
    let b = block c.args.block.now in
    let xs = items c.items_of-all.result.now in
    let low : items_depth xs ≤ block_depth b = slice_falls b xs c.items_of-all.ensures in (
      omega (arith, low),
      (
        c.requires.table,
        (
          c.requires.numbers,
          behind_block c.args.draft.now (place_of c.args.here.now) b
              (scope_seen c.args.source.now.modules.now c.args.source.now.depth xs (place_of c.args.here.now)
              c.in_ok-path-in-None.path)
              (subst (IsReady c.args.draft.now)
              (block_scoped c.args.source.now.modules.now c.args.source.now.depth b xs (place_of c.args.here.now) c.args.number
              c.in_ok-path-in-None.path (sym (sym (ap option_copied c.in-None.is) ∙ c.nested.ensures))
              c.items_of-all.ensures
              c.in_ok-path-in-None.ensures) c.requires.ready),
        ),
      ),
    )

pub write_block-returns-in_ok-write_scope-in-None-clause-written :
    goal.write_block-returns-in_ok-write_scope-in-None-clause-written
write_block-returns-in_ok-write_scope-in-None-clause-written z c =
    let b = block c.args.block.now in
    let xs = items c.items_of-all.result.now in
    subst (λ ys. Writes c.args.draft.now ys c.write_scope.new.draft)
    (sym (block_scoped c.args.source.now.modules.now c.args.source.now.depth b xs (place_of c.args.here.now) c.args.number
    c.in_ok-path-in-None.path (sym (sym (ap option_copied c.in-None.is) ∙ c.nested.ensures)) c.items_of-all.ensures
    c.in_ok-path-in-None.ensures)) c.in_ok-write_scope-in-None.ensures.written

pub write_block-returns-in_ok-write_scope-in-None-clause-here :
    goal.write_block-returns-in_ok-write_scope-in-None-clause-here
write_block-returns-in_ok-write_scope-in-None-clause-here z c = c.in_ok-write_scope-in-None.ensures.here

pub write_block-write_one-requires : goal.write_block-write_one-requires
write_block-write_one-requires z c =
    let b = block c.args.block.now in
    let x = c.in-Some.part.now in
    let some : nested_if b ≡ Some x = sym c.in-Some.ensures in
    let low : depth x ≤ block_depth b = (nested_is b x some).falls in (
      omega (arith, low),
      (
        c.requires.table,
        (
          c.requires.numbers,
          (
            nested_declares (around_of c.args.here.now.scopes) b x some,
            behind_block c.args.draft.now (place_of c.args.here.now) b
                (item_seen c.args.source.now.modules.now c.args.source.now.depth x (place_of c.args.here.now) c.args.number)
                (subst (IsReady c.args.draft.now)
                (block_nested c.args.source.now.modules.now c.args.source.now.depth b x (place_of c.args.here.now) c.args.number some)
                c.requires.ready),
          ),
        ),
      ),
    )

pub write_block-returns-in_ok-write_one-in-Some-clause-written :
    goal.write_block-returns-in_ok-write_one-in-Some-clause-written
write_block-returns-in_ok-write_one-in-Some-clause-written z c =
    let b = block c.args.block.now in
    let x = c.in-Some.part.now in
    let some : nested_if b ≡ Some x = sym c.in-Some.ensures in
    subst (λ xs. Writes c.args.draft.now xs c.write_one.new.draft)
    (sym (block_nested c.args.source.now.modules.now c.args.source.now.depth b x (place_of c.args.here.now) c.args.number some))
    c.in_ok-write_one-in-Some.ensures.written

pub write_block-returns-in_ok-write_one-in-Some-clause-here :
    goal.write_block-returns-in_ok-write_one-in-Some-clause-here
write_block-returns-in_ok-write_one-in-Some-clause-here z c = c.in_ok-write_one-in-Some.ensures.here

-- ---- turns of a loop

pub write_turns-loop-left-init : goal.write_turns-loop-left-init
write_turns-loop-left-init z c =
    let ms = c.args.source.now.modules.now in
    let d = c.args.source.now.depth in
    let head = c.args.head.now in
    let b = block c.args.block.now in
    let at = place_of c.args.here.now in
    let all = turns_seen ms d head b at c.args.number in
    record {
      here = refl;
      bounded = c.in_ok-value.ensures.bounded;
      turns_left = subst (λ v. Left c.args.draft.now all c.args.draft.now
          (seen_steps (turns 4096 (goes_on head at.scopes) (next_turn head at.scopes)
          (turn_body ms d head b at (block_name at.names c.args.number (label_of b))) v)))
          (sym (c.in_ok-value.ensures.value at.scopes c.requires.numbers))
          (left_all c.args.draft.now all c.requires.ready);
    }

pub write_turns-write_turn-requires : goal.write_turns-write_turn-requires
write_turns-write_turn-requires z c =
    let ms = c.args.source.now.modules.now in
    let d = c.args.source.now.depth in
    let head = c.args.head.now in
    let b = block c.args.block.now in
    let at = place_of c.args.here.now in
    let body = turn_body ms d head b at (block_name at.names c.args.number (label_of b)) in
    let goes = goes_on head at.scopes in
    let next = next_turn head at.scopes in
    let n = c.loop-left.left in
    let v = c.loop-left.value in
    let positive : 0 < c.loop-left.left = omega (arith, c.loop-left-test.true) in
    let here : c.loop-left.here ≡ c.args.here.now = c.loop-left.invariant.here in
    let kept : (record c.loop-left.here { numbers = c.next_value.new.numbers }) ≡ c.args.here.now =
    ap (λ ns. record c.loop-left.here { numbers = ns }) c.in_ok-next.ensures.numbers ∙ here in
    let numbers : HaveNumbers c.loop-left.here.numbers at.scopes =
    subst (λ (h : Here). HaveNumbers h.numbers at.scopes) (sym here) c.requires.numbers in
    let chosen = sym c.in-Some.is ∙ c.in_ok-next.ensures.next at.scopes numbers in
    let all = turns_seen ms d head b at c.args.number in
    let ready : IsReady c.loop-left.draft (seen_steps (body v)) =
    ready_first c.loop-left.draft (seen_steps (turns n goes next body v)) (seen_steps (body v))
    (seen_steps (turns (n - 1) goes next body (next v)))
    (begun c.args.draft.now all goes next body n v positive
    (some_goes c.args.draft.now all goes next body (goes v) v c.in-Some.next chosen))
    c.loop-left.invariant.turns_left.ready in (
      omega arith,
      (
        c.requires.table,
        (
          subst (λ (h : Here). HaveNumbers h.numbers h.scopes) (sym kept) c.requires.numbers,
          (
            c.loop-left.invariant.bounded,
            subst (λ (h : Here). IsReady c.loop-left.draft
                (turn_seen ms d head b (place_of h) c.in_ok-label.label v)) (sym kept)
                (subst (λ text. IsReady c.loop-left.draft (turn_seen ms d head b at text v)) (sym c.in_ok-label.ensures)
                ready),
          ),
        ),
      ),
    )

pub write_turns-loop-left-preserved : goal.write_turns-loop-left-preserved
write_turns-loop-left-preserved z c =
    let ms = c.args.source.now.modules.now in
    let d = c.args.source.now.depth in
    let head = c.args.head.now in
    let b = block c.args.block.now in
    let at = place_of c.args.here.now in
    let label = block_name at.names c.args.number (label_of b) in
    let body = turn_body ms d head b at label in
    let goes = goes_on head at.scopes in
    let next = next_turn head at.scopes in
    let n = c.loop-left.left in
    let v = c.loop-left.value in
    let positive : 0 < c.loop-left.left = omega (arith, c.loop-left-test.true) in
    let here : c.loop-left.here ≡ c.args.here.now = c.loop-left.invariant.here in
    let kept : (record c.loop-left.here { numbers = c.next_value.new.numbers }) ≡ c.args.here.now =
    ap (λ ns. record c.loop-left.here { numbers = ns }) c.in_ok-next.ensures.numbers ∙ here in
    let numbers : HaveNumbers c.loop-left.here.numbers at.scopes =
    subst (λ (h : Here). HaveNumbers h.numbers at.scopes) (sym here) c.requires.numbers in
    let chosen = sym c.in-Some.is ∙ c.in_ok-next.ensures.next at.scopes numbers in
    let all = turns_seen ms d head b at c.args.number in
    let written : Writes c.loop-left.draft (turn_seen ms d head b at label v) c.write_turn.new.draft =
    subst (λ text. Writes c.loop-left.draft (turn_seen ms d head b at text v) c.write_turn.new.draft)
    c.in_ok-label.ensures
    (subst (λ (h : Here). Writes c.loop-left.draft (turn_seen ms d head b (place_of h) c.in_ok-label.label v)
    c.write_turn.new.draft) kept c.in_ok-write_turn.ensures.written) in
    record {
      here = c.in_ok-write_turn.ensures.here ∙ kept;
      bounded = next_bounded head at.scopes v c.in-Some.next
          (some_next c.args.draft.now all goes next body (goes v) v c.in-Some.next chosen);
      turns_left = turns_on c.args.draft.now all goes next body c.loop-left.draft c.write_turn.new.draft n v
          c.in-Some.next positive chosen c.loop-left.invariant.turns_left written;
    }

pub write_turns-returns-in_default-clause-here : goal.write_turns-returns-in_default-clause-here
write_turns-returns-in_default-clause-here z c =
    ap (λ ns. record c.loop-left.here { numbers = ns }) c.in_ok-next.ensures.numbers ∙ c.loop-left.invariant.here

pub write_turns-returns-in_default-clause-written : goal.write_turns-returns-in_default-clause-written
write_turns-returns-in_default-clause-written z c =
    let ms = c.args.source.now.modules.now in
    let d = c.args.source.now.depth in
    let head = c.args.head.now in
    let b = block c.args.block.now in
    let at = place_of c.args.here.now in
    let body = turn_body ms d head b at (block_name at.names c.args.number (label_of b)) in
    let goes = goes_on head at.scopes in
    let next = next_turn head at.scopes in
    let n = c.loop-left.left in
    let v = c.loop-left.value in
    let numbers : HaveNumbers c.loop-left.here.numbers at.scopes =
    subst (λ (h : Here). HaveNumbers h.numbers at.scopes) (sym c.loop-left.invariant.here) c.requires.numbers in
    let all = turns_seen ms d head b at c.args.number in
    left_none c.args.draft.now all c.loop-left.draft (seen_steps (turns n goes next body v))
    (turns_stopped c.args.draft.now all goes next body n v
    (sym c.in_default.is ∙ c.in_ok-next.ensures.next at.scopes numbers)) c.loop-left.invariant.turns_left

pub write_turns-returns-clause-here : goal.write_turns-returns-clause-here
write_turns-returns-clause-here z c = c.loop-left.invariant.here

pub write_turns-returns-clause-written : goal.write_turns-returns-clause-written
write_turns-returns-clause-written z c =
    let ms = c.args.source.now.modules.now in
    let d = c.args.source.now.depth in
    let head = c.args.head.now in
    let b = block c.args.block.now in
    let at = place_of c.args.here.now in
    let body = turn_body ms d head b at (block_name at.names c.args.number (label_of b)) in
    let goes = goes_on head at.scopes in
    let next = next_turn head at.scopes in
    let v = c.loop-left.value in
    let none : c.loop-left.left ≡ 0 = grind (arith, common_steps) in
    left_none c.args.draft.now (turns_seen ms d head b at c.args.number) c.loop-left.draft
    (seen_steps (turns c.loop-left.left goes next body v)) (ap (λ n. seen_steps (turns n goes next body v)) none)
    c.loop-left.invariant.turns_left

pub write_turns-returns-in_err-label-clause-written : goal.write_turns-returns-in_err-label-clause-written
write_turns-returns-in_err-label-clause-written z c = fails c.from_residual.result _ _ c.from_residual.ensures.1

pub write_turns-returns-in_err-value-clause-written : goal.write_turns-returns-in_err-value-clause-written
write_turns-returns-in_err-value-clause-written z c =
    fails c.from_residual-in_err-value.result _ _ c.from_residual-in_err-value.ensures.1

pub write_turns-returns-in_err-next-clause-written : goal.write_turns-returns-in_err-next-clause-written
write_turns-returns-in_err-next-clause-written z c =
    fails c.from_residual-in_err-next.result _ _ c.from_residual-in_err-next.ensures.1

pub write_turns-returns-in_err-write_turn-clause-written : goal.write_turns-returns-in_err-write_turn-clause-written
write_turns-returns-in_err-write_turn-clause-written z c =
    fails c.from_residual-in_err-write_turn.result _ _ c.from_residual-in_err-write_turn.ensures.1

pub write_turns-overflow_sub-left : goal.write_turns-overflow_sub-left
write_turns-overflow_sub-left z c = omega (arith, c.loop-left-test.true)

pub write_turns-loop-left-smaller : goal.write_turns-loop-left-smaller
write_turns-loop-left-smaller z c = omega (arith, c.loop-left-test.true)

-- ---- a turn

pub write_turn-turn_path-requires : goal.write_turn-turn_path-requires
write_turn-turn_path-requires z c = c.requires.bounded

pub write_turn-write_scope-requires : goal.write_turn-write_scope-requires
write_turn-write_scope-requires z c =
    let ms = c.args.source.now.modules.now in
    let d = c.args.source.now.depth in
    let h = c.args.here.now in
    let b = block c.args.block.now in
    let xs = items c.items_of-all.result.now in
    let low : items_depth xs ≤ block_depth b = slice_falls b xs c.items_of-all.ensures in
    let turn = turn_place (place_of h) c.args.head.now.variable c.args.value in
    let so : turn_seen ms d c.args.head.now b (place_of h) c.args.label.now c.args.value
    ≡ seen_step (block_step turn b) ∷ scope_seen ms d xs (place_of c.open_turn.new.here) c.in_ok-path.path =
    turn_scoped ms d c.args.head.now b xs (place_of h) c.args.label.now c.args.value c.in_ok-path.path
    c.items_of-all.ensures
    (c.in_ok-path.ensures ∙ ap (λ p. turn_path p c.args.label.now c.args.value) c.in_ok-open_turn.ensures.path)
    ∙ ap (λ ys. seen_step (block_step turn b) ∷ ys)
    (turn_scope ms d xs h.scopes h.path c.in_ok-path.path c.args.head.now.variable h.names c.args.value
    ∙ (λ i. scope_seen ms d xs (place_in (sym c.in_ok-open_turn.ensures.scopes i)
    (sym c.in_ok-open_turn.ensures.path i) (sym c.in_ok-open_turn.ensures.names i)) c.in_ok-path.path)) in (
      omega (arith, low),
      (
        c.requires.table,
        (
          c.in_ok-open_turn.ensures.numbers c.requires.numbers,
          behind_block c.args.draft.now turn b (scope_seen ms d xs (place_of c.open_turn.new.here) c.in_ok-path.path)
              (subst (IsReady c.args.draft.now) so c.requires.ready),
        ),
      ),
    )

pub write_turn-returns-clause-written : goal.write_turn-returns-clause-written
write_turn-returns-clause-written z c =
    let ms = c.args.source.now.modules.now in
    let d = c.args.source.now.depth in
    let h = c.args.here.now in
    let b = block c.args.block.now in
    let xs = items c.items_of-all.result.now in
    let turn = turn_place (place_of h) c.args.head.now.variable c.args.value in
    let so : turn_seen ms d c.args.head.now b (place_of h) c.args.label.now c.args.value
    ≡ seen_step (block_step turn b) ∷ scope_seen ms d xs (place_of c.open_turn.new.here) c.in_ok-path.path =
    turn_scoped ms d c.args.head.now b xs (place_of h) c.args.label.now c.args.value c.in_ok-path.path
    c.items_of-all.ensures
    (c.in_ok-path.ensures ∙ ap (λ p. turn_path p c.args.label.now c.args.value) c.in_ok-open_turn.ensures.path)
    ∙ ap (λ ys. seen_step (block_step turn b) ∷ ys)
    (turn_scope ms d xs h.scopes h.path c.in_ok-path.path c.args.head.now.variable h.names c.args.value
    ∙ (λ i. scope_seen ms d xs (place_in (sym c.in_ok-open_turn.ensures.scopes i)
    (sym c.in_ok-open_turn.ensures.path i) (sym c.in_ok-open_turn.ensures.names i)) c.in_ok-path.path)) in
    subst (λ ys. Writes c.args.draft.now ys c.write_scope.new.draft) (sym so) c.in_ok-write_scope.ensures.written

pub write_turn-returns-clause-here : goal.write_turn-returns-clause-here
write_turn-returns-clause-here z c =
    let kept = c.in_ok-write_scope.ensures.here in
    same_here c.leave_turn.new.here c.args.here.now
    (c.leave_turn.ensures.scopes ∙ ap (λ (h : Here). drop 1 h.scopes) kept
    ∙ ap (drop 1) c.in_ok-open_turn.ensures.scopes)
    (c.leave_turn.ensures.numbers ∙ ap (λ (h : Here). drop 1 h.numbers) kept ∙ c.in_ok-open_turn.ensures.beneath)
    (c.leave_turn.ensures.path ∙ ap (λ (h : Here). h.path) kept ∙ c.in_ok-open_turn.ensures.path)
    (c.leave_turn.ensures.names ∙ ap (λ (h : Here). h.names) kept ∙ c.in_ok-open_turn.ensures.names)

-- ---- a scope

pub write_scope-open_block-requires : goal.write_scope-open_block-requires
write_scope-open_block-requires z c = record {
  numbers = c.requires.numbers;
  openable = block_opens c.args.source.now.modules.now c.args.source.now.depth (items c.args.all.now) (place_of c.args.here.now) c.args.path
      c.requires.ready.openable;
}

pub write_scope-write_items-requires : goal.write_scope-write_items-requires
write_scope-write_items-requires z c =
    let ms = c.args.source.now.modules.now in
    let d = c.args.source.now.depth in
    let h = c.args.here.now in
    let xs = items c.args.all.now in
    let so : scope_seen ms d xs (place_of h) c.args.path ≡ items_seen ms d xs (place_of c.open_block.new.here) 1 =
    block_here ms d xs h.scopes h.path c.args.path h.names
    ∙ (λ i. items_seen ms d xs (place_in (sym c.in_ok-opened.ensures.scopes i) (sym c.in_ok-opened.ensures.path i)
    (sym c.in_ok-opened.ensures.names i)) 1) in (
      omega arith,
      (
        c.requires.table,
        (
          c.in_ok-opened.ensures.numbers,
          (
            c.as_slice.ensures ∙ c.in_ok-opened.ensures.decls
                ∙ ap (λ ss. declared (around_of ss) xs) (sym c.in_ok-opened.ensures.scopes),
            subst (IsReady c.args.draft.now) so c.requires.ready,
          ),
        ),
      ),
    )

pub write_scope-returns-clause-written : goal.write_scope-returns-clause-written
write_scope-returns-clause-written z c =
    let ms = c.args.source.now.modules.now in
    let d = c.args.source.now.depth in
    let h = c.args.here.now in
    let xs = items c.args.all.now in
    let so : scope_seen ms d xs (place_of h) c.args.path ≡ items_seen ms d xs (place_of c.open_block.new.here) 1 =
    block_here ms d xs h.scopes h.path c.args.path h.names
    ∙ (λ i. items_seen ms d xs (place_in (sym c.in_ok-opened.ensures.scopes i) (sym c.in_ok-opened.ensures.path i)
    (sym c.in_ok-opened.ensures.names i)) 1) in
    subst (λ ys. Writes c.args.draft.now ys c.write_items.new.draft) (sym so) c.in_ok-write_items.ensures.written

pub write_scope-returns-clause-here : goal.write_scope-returns-clause-here
write_scope-returns-clause-here z c =
    let kept = c.in_ok-write_items.ensures.here in
    same_here c.leave_block.new.here c.args.here.now
    (c.leave_block.ensures.scopes ∙ ap (λ (h : Here). drop 1 h.scopes) kept ∙ ap (drop 1) c.in_ok-opened.ensures.scopes)
    (c.leave_block.ensures.numbers ∙ ap (λ (h : Here). drop 1 h.numbers) kept ∙ c.in_ok-opened.ensures.beneath)
    (c.leave_block.ensures.path ∙ c.in_ok-opened.ensures.around.0)
    (c.leave_block.ensures.names ∙ c.in_ok-opened.ensures.around.1)

-- ---- instances

pub write_instance-find-requires : goal.write_instance-find-requires
write_instance-find-requires z c = c.requires.table

pub write_instance-open_instance-requires : goal.write_instance-open_instance-requires
write_instance-open_instance-requires z c =
    let positive : 0 < c.args.source.now.depth = grind (arith, c.if-source-eq0.false) in
    record {
      numbers = c.requires.numbers;
      openable = instance_opens c.args.source.now.modules.now c.args.source.now.depth c.args.instance.now (place_of c.args.here.now)
          c.in-Some.module.now c.in-Some.ensures positive c.args.draft.now c.requires.ready;
    }

pub write_instance-overflow_sub-inner : goal.write_instance-overflow_sub-inner
write_instance-overflow_sub-inner z c = omega (arith, c.if-source-eq0.false)

pub write_instance-write_opened-requires : goal.write_instance-write_opened-requires
write_instance-write_opened-requires z c =
    let ms = c.args.source.now.modules.now in
    let m = c.in-Some.module.now in
    let at = place_of c.args.here.now in
    let u = use_of has_any at.scopes c.args.instance.now in
    let inside = at.path ++ c.args.instance.now.name ++ codes "." in
    let positive : 0 < c.args.source.now.depth = grind (arith, c.if-source-eq0.false) in
    let low = module_falls c.args.source.now.depth (deepest ms) (items_depth (items m.items)) positive
    (named_is ms c.args.instance.now.definition m (sym c.in-Some.ensures)).falls in (
      omega (arith, low),
      (
        c.requires.table,
        (
          c.in_ok-opened.ensures.numbers,
          (
            opened_declares ms (c.args.source.now.depth - 1) m u inside at.modules c.in_ok-opened.opened
                c.in_ok-opened.ensures,
            opened_ready ms c.args.source.now.depth c.args.instance.now at m c.in-Some.ensures positive c.in_ok-opened.opened
                c.in_ok-opened.ensures c.args.draft.now c.write_joined.new.draft c.requires.ready
                c.in_ok-write_joined.ensures,
          ),
        ),
      ),
    )

pub write_instance-returns-in_default : goal.write_instance-returns-in_default
write_instance-returns-in_default z c =
    let at = place_of c.args.here.now in
    writes_nothing c.args.draft.now (instance_seen c.args.source.now.modules.now c.args.source.now.depth c.args.instance.now at)
    (none_found c.args.source.now.modules.now c.args.source.now.depth c.args.instance.now at
    (sym (ap option_copied c.in_default.is) ∙ c.find.ensures))

pub write_instance-returns-then-source-eq0 : goal.write_instance-returns-then-source-eq0
write_instance-returns-then-source-eq0 z c =
    let at = place_of c.args.here.now in
    writes_nothing c.args.draft.now (instance_seen c.args.source.now.modules.now c.args.source.now.depth c.args.instance.now at)
    (too_deep c.args.source.now.modules.now c.args.source.now.depth c.args.instance.now at c.in-Some.module.now c.in-Some.ensures
    c.if-source-eq0.true)

pub write_instance-returns : goal.write_instance-returns
write_instance-returns z c =
    let at = place_of c.args.here.now in
    let positive : 0 < c.args.source.now.depth = grind (arith, c.if-source-eq0.false) in
    on_ok_weaker c.write_opened.result (λ h. instance_written c.args.source.now.modules.now c.args.source.now.depth c.args.instance.now at
    c.in-Some.module.now c.in-Some.ensures positive c.in_ok-opened.opened c.in_ok-opened.ensures c.args.draft.now
    c.write_joined.new.draft c.write_opened.new.draft c.in_ok-write_joined.ensures h) c.write_opened.ensures

-- ---- a module that is opened

pub write_opened-write_ports-requires : goal.write_opened-write_ports-requires
write_opened-write_ports-requires z c =
    ports_may c.args.source.now.modules.now c.args.source.now.depth c.args.module.now c.args.opened c.written_ports.result.now
    c.as_slice.result.now c.written_ports.ensures c.as_slice.ensures c.args.draft.now c.requires.ready

pub write_opened-write_items-requires : goal.write_opened-write_items-requires
write_opened-write_items-requires z c =
    let xs = c.as_slice-2.result.now in
    let low : items_depth (items xs) ≡ items_depth (items c.args.module.now.items) =
    ap (λ ys. items_depth (items ys)) c.as_slice-2.ensures in (
      omega (arith, low),
      (
        c.requires.table,
        (
          c.requires.numbers,
          (
            c.as_slice-3.ensures ∙ c.requires.declared
                ∙ ap (λ ys. declared (around_of c.args.opened.here.scopes) (items ys)) (sym c.as_slice-2.ensures),
            within_ready c.args.source.now.modules.now c.args.source.now.depth c.args.module.now c.args.opened c.written_ports.result.now
                c.as_slice.result.now c.written_ports.ensures c.as_slice.ensures xs c.as_slice-2.ensures c.args.draft.now
                c.write_ports.new.draft c.requires.ready c.in_ok-write_ports.ensures,
          ),
        ),
      ),
    )

pub write_opened-returns : goal.write_opened-returns
write_opened-returns z c =
    let xs = c.as_slice-2.result.now in
    on_ok_weaker c.write_items.result (λ h. opened_written c.args.source.now.modules.now c.args.source.now.depth c.args.module.now
    c.args.opened c.written_ports.result.now c.as_slice.result.now c.written_ports.ensures c.as_slice.ensures xs
    c.as_slice-2.ensures c.args.draft.now c.write_ports.new.draft c.write_items.new.draft c.in_ok-write_ports.ensures h)
    c.write_items.ensures.written

-- ---- measures of loops

pub write_items-loop-part-smaller : goal.write_items-loop-part-smaller
write_items-loop-part-smaller z c = grind (arith, common_steps)
