use Rattle.std.proofs.Common.{◌≡◌, ◌*◌, ◌+◌, [], ℕ, drop}
use Rattle.std.specs.Prelude.{List}
use Rattle.vl_tree.specs.declared.item.ItemKind.TheVariants as kind
use Rattle.vl_tree.specs.Item.{items, items_depth, block_depth, depth}
use Rattle.vl_tree.specs.ItemView.{block, shown}
use Rattle.vl_tree.specs.WellFormed.{AreWellFormed, IsBlock}
use Rattle.vl_mean.specs.declared.const_number.Const.{Const}
use Rattle.vl_mean.specs.Walk.{Place, Step, goes_on, items_walk, loop_walk, next_turn, turn_place}
use Rattle.vl_mean.specs.Walk.{turn_walk, turns, module_walk}
use Rattle.vl_elab_spec.specs.Items.{is_valued}
use Rattle.vl_elab_spec.specs.Refused.{Totals, nowhere}
use Rattle.vl_elab_spec.specs.Left.{AreLeft, ItemsAreLeft}
use Rattle.vl_elab_spec.specs.Within.{deepest}
use Rattle.vl_elab_check.specs.Standing.{HasScope, IsHere, IsSoFar}
use Rattle.vl_elab_check.proofs.walk.+walk.Given as goal

abbrev pub invariant-walk_items-loop-part : goal.invariant-walk_items-loop-part
invariant-walk_items-loop-part l = record {
  inside : l.inside ≡ l.fn.inside;
  path : l.walk.path ≡ l.fn.walk.path;
  scope : HasScope l.inside;
  formed : AreWellFormed (items l.all) → AreWellFormed (items (drop l.part-index l.all));
  left : (t : Totals) (at : Place) (n : ℕ) → IsSoFar l.source.modules.now l.fn.walk.totals t → AreWellFormed (items l.all)
      → IsHere l.fn.inside l.fn.here l.fn.walk.path at
      → ItemsAreLeft l.source.modules.now (module_walk is_valued l.source.fuel l.source.modules.now) t
      (items_walk is_valued l.source.modules.now (module_walk is_valued l.source.fuel l.source.modules.now) (items l.all) at n) (IsHere l.inside l.here l.walk.path) l.walk.totals
      (items (drop l.part-index l.all));
}

abbrev pub invariant-walk_turns-loop-left : goal.invariant-walk_turns-loop-left
invariant-walk_turns-loop-left l = record {
  inside : l.inside ≡ l.fn.inside;
  path : l.walk.path ≡ l.fn.walk.path;
  here : l.here ≡ l.fn.here;
  left : (t : Totals) (at : Place) (paths : Const → List ℕ) → IsSoFar l.source.modules.now l.fn.walk.totals t
      → IsBlock (block l.block) → IsHere l.fn.inside l.fn.here l.fn.walk.path at
      → let body : Const → List Step = λ c. turn_walk is_valued l.source.modules.now (module_walk is_valued l.source.fuel l.source.modules.now) (block l.block)
      (turn_place at l.head.variable c) (paths c)
      in AreLeft l.source.modules.now t (loop_walk is_valued l.head at body) l.walk.totals
      (turns l.left (goes_on l.head at.scopes) (next_turn l.head at.scopes) body l.value);
}

abbrev pub decreases-walk_turns-loop-left : goal.decreases-walk_turns-loop-left
decreases-walk_turns-loop-left l = l.left

-- ---- modules in one another count before blocks in one another

abbrev pub decreases-walk_items : goal.decreases-walk_items
decreases-walk_items l = l.source.now.fuel * (8 * deepest l.source.now.modules.now + 8) + 8 * items_depth (items l.all.now) + 3

abbrev pub decreases-walk_one : goal.decreases-walk_one
decreases-walk_one l = l.source.now.fuel * (8 * deepest l.source.now.modules.now + 8) + 8 * depth l.part.now + 2

abbrev pub decreases-walk_within : goal.decreases-walk_within
decreases-walk_within l = l.source.now.fuel * (8 * deepest l.source.now.modules.now + 8) + 8 * depth l.part.now + 1

abbrev pub decreases-walk_if : goal.decreases-walk_if
decreases-walk_if l =
    l.source.now.fuel * (8 * deepest l.source.now.modules.now + 8)
    + 8 * depth (shown [] nowhere (kind.If l.condition.now l.first.now l.second.now))

abbrev pub decreases-walk_block : goal.decreases-walk_block
decreases-walk_block l = l.source.now.fuel * (8 * deepest l.source.now.modules.now + 8) + 8 * block_depth (block l.block.now) + 6

abbrev pub decreases-walk_turns : goal.decreases-walk_turns
decreases-walk_turns l = l.source.now.fuel * (8 * deepest l.source.now.modules.now + 8) + 8 * block_depth (block l.block.now) + 6

abbrev pub decreases-walk_turn : goal.decreases-walk_turn
decreases-walk_turn l = l.source.now.fuel * (8 * deepest l.source.now.modules.now + 8) + 8 * block_depth (block l.block.now) + 5

abbrev pub decreases-walk_inner : goal.decreases-walk_inner
decreases-walk_inner l = l.source.now.fuel * (8 * deepest l.source.now.modules.now + 8) + 8 * items_depth (items l.all.now) + 5

abbrev pub decreases-walk_scope : goal.decreases-walk_scope
decreases-walk_scope l = l.source.now.fuel * (8 * deepest l.source.now.modules.now + 8) + 8 * items_depth (items l.all.now) + 4

abbrev pub decreases-walk_instance : goal.decreases-walk_instance
decreases-walk_instance l = l.source.now.fuel * (8 * deepest l.source.now.modules.now + 8)

abbrev pub decreases-walk_module : goal.decreases-walk_module
decreases-walk_module l =
    l.source.now.fuel * (8 * deepest l.source.now.modules.now + 8) + 8 * items_depth (items l.module.now.items) + 4
