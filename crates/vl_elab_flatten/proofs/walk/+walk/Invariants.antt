use Rattle.std.proofs.Common.{◌≡◌, ◌*◌, ◌+◌, ◌≤◌, [], drop}
use Rattle.vl_tree.specs.declared.item.ItemKind.TheVariants as kind
use Rattle.vl_tree.specs.Item.{items, items_depth, block_depth, depth}
use Rattle.vl_tree.specs.ItemView.{block, shown}
use Rattle.vl_mean.specs.Declarations.{block_name, declared, label_of}
use Rattle.vl_mean.specs.Walk.{goes_on, next_turn, turns}
use Rattle.vl_elab_spec.specs.Refused.{nowhere}
use Rattle.vl_mean_flat.specs.Seen.{seen_steps}
use Rattle.vl_elab_spec.specs.Within.{deepest}
use Rattle.vl_elab_flatten.specs.Here.{around_of}
use Rattle.vl_elab_flatten.specs.Ready.{IsTurn, items_seen, place_of, turn_body, turns_seen}
use Rattle.vl_elab_flatten.proofs.Seens.{Left}
use Rattle.vl_elab_flatten.proofs.walk.+walk.Given as goal

abbrev pub invariant-write_items-loop-part : goal.invariant-write_items-loop-part
invariant-write_items-loop-part l = record {
  here : l.here ≡ l.fn.here;
  declares : l.rest ≡ declared (around_of l.fn.here.scopes) (items (drop l.part-index l.all));
  few : l.number ≤ l.part-index + 1;
  left : Left l.fn.draft (items_seen l.source.modules.now l.source.depth (items l.all) (place_of l.fn.here) 1) l.draft
      (items_seen l.source.modules.now l.source.depth (items (drop l.part-index l.all)) (place_of l.fn.here) l.number);
}

abbrev pub invariant-write_turns-loop-left : goal.invariant-write_turns-loop-left
invariant-write_turns-loop-left l = record {
  here : l.here ≡ l.fn.here;
  bounded : IsTurn l.value;
  turns_left : Left l.fn.draft (turns_seen l.source.modules.now l.source.depth l.head (block l.block) (place_of l.fn.here) l.number)
      l.draft
      (seen_steps (turns l.left (goes_on l.head l.fn.here.scopes) (next_turn l.head l.fn.here.scopes)
      (turn_body l.source.modules.now l.source.depth l.head (block l.block) (place_of l.fn.here)
      (block_name l.fn.here.names l.number (label_of (block l.block)))) l.value));
}

abbrev pub decreases-write_turns-loop-left : goal.decreases-write_turns-loop-left
decreases-write_turns-loop-left l = l.left

-- ---- modules in one another count before blocks in one another

abbrev pub decreases-write_items : goal.decreases-write_items
decreases-write_items l = l.source.now.depth * (8 * deepest l.source.now.modules.now + 8) + 8 * items_depth (items l.all.now) + 3

abbrev pub decreases-write_one : goal.decreases-write_one
decreases-write_one l = l.source.now.depth * (8 * deepest l.source.now.modules.now + 8) + 8 * depth l.part.now + 2

abbrev pub decreases-write_within : goal.decreases-write_within
decreases-write_within l = l.source.now.depth * (8 * deepest l.source.now.modules.now + 8) + 8 * depth l.part.now + 1

abbrev pub decreases-write_if : goal.decreases-write_if
decreases-write_if l =
    l.source.now.depth * (8 * deepest l.source.now.modules.now + 8)
    + 8 * depth (shown [] nowhere (kind.If l.condition.now l.first.now l.second.now))

abbrev pub decreases-write_block : goal.decreases-write_block
decreases-write_block l = l.source.now.depth * (8 * deepest l.source.now.modules.now + 8) + 8 * block_depth (block l.block.now) + 5

abbrev pub decreases-write_turns : goal.decreases-write_turns
decreases-write_turns l = l.source.now.depth * (8 * deepest l.source.now.modules.now + 8) + 8 * block_depth (block l.block.now) + 6

abbrev pub decreases-write_turn : goal.decreases-write_turn
decreases-write_turn l = l.source.now.depth * (8 * deepest l.source.now.modules.now + 8) + 8 * block_depth (block l.block.now) + 5

abbrev pub decreases-write_scope : goal.decreases-write_scope
decreases-write_scope l = l.source.now.depth * (8 * deepest l.source.now.modules.now + 8) + 8 * items_depth (items l.all.now) + 4

abbrev pub decreases-write_instance : goal.decreases-write_instance
decreases-write_instance l = l.source.now.depth * (8 * deepest l.source.now.modules.now + 8)

abbrev pub decreases-write_opened : goal.decreases-write_opened
decreases-write_opened l =
    l.source.now.depth * (8 * deepest l.source.now.modules.now + 8) + 8 * items_depth (items l.module.now.items) + 4
