-- Meaning: How much of a design the steps of its walk are: nodes of its tree, each time that the walk goes through
-- them, and declared names. Rule of this project.
use Rattle.std.specs.Prelude.{
  ℕ,
  zero,
  suc,
  ◌+◌,
  List,
  [],
  ◌∷◌,
  ◌&&◌,
  Option,
  Some,
  None,
  if◌then◌else◌,
}
use Rattle.fv_text.specs.declared.pos.Pos.{Pos}
use Rattle.vl_tree.specs.declared.declaration.DeclaredName.{DeclaredName}
use Rattle.vl_tree.specs.declared.declaration.Parameter.{Parameter}
use Rattle.vl_tree.specs.declared.declaration.Range.{Range}
use Rattle.vl_tree.specs.declared.item.RegionMark.{RegionMark}
use Rattle.vl_tree.specs.declared.item.RegionMark.TheVariants as mark
use Rattle.vl_tree.specs.declared.part.Assignment.{Assignment}
use Rattle.vl_tree.specs.declared.part.LoopHead.{LoopHead}
use Rattle.vl_tree.specs.Expr.{Expr}
use Rattle.vl_tree.specs.Item.{Item, Block, declaration, integer, genvar, parameter, assign, always, initial, instance}
use Rattle.vl_tree.specs.Item.{begin, region, single}
use Rattle.vl_tree.specs.Item.{generate, for_loop, if_only, if_else}
use Rattle.vl_mean.specs.declared.const_number.Const.{Const}
use Rattle.vl_mean.specs.Declarations.{declared_by}
use Rattle.vl_mean.specs.FlatLaw.{all_names_count, nodes, target_nodes, stmt_nodes}
use Rattle.vl_mean.specs.Walk.{Place, Step, header, port, item, override, connection, block_step, goes_on, next_turn}
use Rattle.vl_mean.specs.Walk.{first_turn, most_turns, turn_place}
use Rattle.vl_elab_spec.specs.Items.{is_valued}

abbrev pub value_nodes : Option Expr → ℕ
value_nodes None = 0
value_nodes (Some e) = nodes e

abbrev pub range_nodes : Option Range → ℕ
range_nodes None = 0
range_nodes (Some r) = nodes r.left + nodes r.right

abbrev pub name_nodes : List DeclaredName → ℕ
name_nodes [] = 0
name_nodes (x ∷ xs) = range_nodes x.words + value_nodes x.value + 1 + name_nodes xs

abbrev pub parameter_nodes : List Parameter → ℕ
parameter_nodes [] = 0
parameter_nodes (x ∷ xs) = range_nodes x.shape.range + nodes x.value + 1 + parameter_nodes xs

abbrev pub assignment_nodes : List Assignment → ℕ
assignment_nodes [] = 0
assignment_nodes (x ∷ xs) = target_nodes x.target + nodes x.value + assignment_nodes xs

-- each turn and what leads to the next one
abbrev pub turn_nodes : ℕ → LoopHead → Place → Const → ℕ
turn_nodes zero head at c = nodes head.condition
turn_nodes (suc n) head at c =
    let more = turn_nodes n head at (next_turn head at.scopes c) in
    nodes head.condition + (if goes_on head at.scopes c then nodes head.next + more else 0)

-- of the first turn alone
abbrev pub one_turn_nodes : LoopHead → Place → Const → ℕ
one_turn_nodes head at c = nodes head.condition + (if goes_on head at.scopes c then nodes head.next else 0)

-- of the turns that begin, as the walk goes through them
abbrev pub loop_nodes : LoopHead → Place → ℕ
loop_nodes head at =
    let first = first_turn head at.scopes in
    let inside = turn_place at head.variable first in
    let turns =
    if is_valued inside head.next then turn_nodes most_turns head at first else one_turn_nodes head at first in
    if is_valued at head.start && is_valued inside head.condition then turns else nodes head.condition

-- a generate region counts at its `generate`, not again at its end
abbrev pub mark_nodes : RegionMark → ℕ
mark_nodes mark.Open = 1
mark_nodes mark.Close = 0

-- the blocks of a loop's turns and the chosen one of an `if` are counted where they are walked; the names of genvars
-- have no nodes of their own
abbrev pub item_nodes : Place → Item → ℕ
item_nodes at (declaration attrs p d) = range_nodes d.shape.range + name_nodes d.names + 1
item_nodes at (integer attrs p xs) = name_nodes xs + 1
item_nodes at (genvar attrs p xs) = 1
item_nodes at (parameter attrs p kind xs) = parameter_nodes xs + 1
item_nodes at (assign attrs p xs) = assignment_nodes xs + 1
item_nodes at (always attrs p event s) = stmt_nodes s + 1
item_nodes at (initial attrs p s) = stmt_nodes s + 1
item_nodes at (instance attrs p x) = 1
item_nodes at (generate attrs p m) = mark_nodes m
item_nodes at (for_loop attrs p head b) = nodes head.start + loop_nodes head at + 1
item_nodes at (if_only attrs p c b) = nodes c + 1
item_nodes at (if_else attrs p c b d) = nodes c + 1

abbrev pub step_nodes : Step → ℕ
step_nodes (header at x) = parameter_nodes (x ∷ [])
step_nodes (port at u p q) = range_nodes q.shape.range + value_nodes q.value + 1
step_nodes (item at x) = item_nodes at x
step_nodes (override at m u given x) = value_nodes x.value + 1
step_nodes (connection at m u inside given x) = value_nodes x.value + 1
step_nodes (block_step at b) = 1

-- a memory's words count beside its name
abbrev pub step_names : Step → ℕ
step_names (port at u p q) = 1
step_names (item at x) = all_names_count (declared_by at.around x)
step_names x = 0

-- ---- where a step stands in the text

abbrev pub item_pos : Item → Pos
item_pos (declaration attrs p d) = p
item_pos (integer attrs p xs) = p
item_pos (genvar attrs p xs) = p
item_pos (parameter attrs p kind xs) = p
item_pos (assign attrs p xs) = p
item_pos (always attrs p event s) = p
item_pos (initial attrs p s) = p
item_pos (instance attrs p x) = p
item_pos (generate attrs p mark) = p
item_pos (for_loop attrs p head b) = p
item_pos (if_only attrs p c b) = p
item_pos (if_else attrs p c b d) = p

-- a block stands at its `begin` or `generate`, or where its one item stands
abbrev pub block_pos : Block → Pos
block_pos (begin p label xs) = p
block_pos (region p xs) = p
block_pos (single x) = item_pos x

abbrev pub step_pos : Step → Pos
step_pos (header at x) = x.pos
step_pos (port at u p q) = p.pos
step_pos (item at x) = item_pos x
step_pos (override at m u given x) = x.pos
step_pos (connection at m u inside given x) = x.pos
step_pos (block_step at b) = block_pos b
