use Rattle.std.specs.Prelude.{◌≡◌, ℕ, ◌<◌, List, Option, None, Some, length, slice_get}
use Rattle.std.proofs.Common.{sym, subst, arith}
use Rattle.fv_graph.proofs.Lists.{get_less}
use Rattle.wn_opt.specs.Needed.{operands}
use Rattle.wn_opt.specs.Cone.{HasPlace}
use Rattle.wn_opt.specs.Parts.{ArePlaced}
use Rattle.wn_opt.proofs.Copying.{copied_skip, free_place, mark_read, not_set, operands_placed, placed_on, taken_place}
use Rattle.wn_opt.proofs.copy.copy_next.Goals as goal

pub returns-then-not-marks-index-clause-copied : goal.returns-then-not-marks-index-clause-copied
returns-then-not-marks-index-clause-copied c =
    let k = c.args.index in
    let t = c.args.places.now.items in
    let there = get_less c.args.net.now.nodes k c.args.node.now c.requires.at in
    let less : k < length c.args.marks.now = omega (arith, there, c.requires.each) in
    copied_skip c.args.net.now c.args.part.now c.args.marks.now t k c.requires.copied
    (not_set c.args.marks.now k (HasPlace t k) (mark_read c.args.marks.now k _ less c.if-not-marks-index.true))

pub returns-then-is_some-clause-copied : goal.returns-then-is_some-clause-copied
returns-then-is_some-clause-copied c =
    let k = c.args.index in
    let t = c.args.places.now.items in
    let there = get_less c.args.net.now.nodes k c.args.node.now c.requires.at in
    let less : k < length t = omega (arith, there, c.requires.all) in
    copied_skip c.args.net.now c.args.part.now c.args.marks.now t k c.requires.copied (λ on.
    taken_place t k c.index.result.now less c.index.ensures c.is_some.result c.is_some.ensures c.if-is_some.true)

pub copy_node-requires-clause-marked : goal.copy_node-requires-clause-marked
copy_node-requires-clause-marked c =
    let k = c.args.index in
    let there = get_less c.args.net.now.nodes k c.args.node.now c.requires.at in
    let less : k < length c.args.marks.now = omega (arith, there, c.requires.each) in
    mark_read c.args.marks.now k _ less c.if-not-marks-index.false

pub copy_node-requires-clause-free : goal.copy_node-requires-clause-free
copy_node-requires-clause-free c =
    let k = c.args.index in
    let t = c.args.places.now.items in
    let there = get_less c.args.net.now.nodes k c.args.node.now c.requires.at in
    let less : k < length t = omega (arith, there, c.requires.all) in
    let P : List (Option ℕ) → Type 0 = λ u. slice_get u k ≡ Some None in
    subst P (sym c.as_slice.ensures.value)
    (free_place t k c.index.result.now less c.index.ensures c.is_some.result c.is_some.ensures c.if-is_some.false)

pub copy_node-requires-clause-operands : goal.copy_node-requires-clause-operands
copy_node-requires-clause-operands c =
    let k = c.args.index in
    let t = c.args.places.now.items in
    let there = get_less c.args.net.now.nodes k c.args.node.now c.requires.at in
    let less : k < length c.args.marks.now = omega (arith, there, c.requires.each) in
    let P : List (Option ℕ) → Type 0 = λ u. ArePlaced u (operands c.args.node.now) in
    subst P (sym c.as_slice.ensures.value)
    (operands_placed c.args.net.now c.args.part.now c.args.marks.now t k c.args.node.now c.requires.whole
    c.requires.copied c.requires.closed (mark_read c.args.marks.now k _ less c.if-not-marks-index.false)
    c.requires.at)

pub returns-clause-kept : goal.returns-clause-kept
returns-clause-kept c =
    let k = c.args.index in
    let t = c.args.places.now.items in
    let there = get_less c.args.net.now.nodes k c.args.node.now c.requires.at in
    let less : k < length t = omega (arith, there, c.requires.all) in
    placed_on t k c.in_ok-at.at
    (free_place t k c.index.result.now less c.index.ensures c.is_some.result c.is_some.ensures c.if-is_some.false)
