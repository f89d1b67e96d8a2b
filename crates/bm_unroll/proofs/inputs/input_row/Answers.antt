use Rattle.std.specs.Prelude.{length, slice_index_or}
use Rattle.std.proofs.Common.{ap, arith}
use Rattle.wn_net.specs.declared.parts.Input.{Input}
use Rattle.wn_net.specs.declared.parts.InputKind.TheVariants.{EachCycle}
use Rattle.wn_net.specs.Width.{IsWidth}
use Rattle.bm_unroll.proofs.Items.{all_in, at_place}
use Rattle.bm_unroll.proofs.Drafting.{extends_more, room_left}
use Rattle.bm_unroll.proofs.Rows.{once_before, rowing_draft, rowing_next, rowing_none, rowing_row, rows_long, rows_on}
use Rattle.bm_unroll.proofs.inputs.input_row.Goals as goal

-- what a read past the last input would give
abbrev no_input : Input
no_input = record { width = 0; kind = EachCycle }

pub loop-index-init : goal.loop-index-init
loop-index-init c = rowing_none c.args.net.now c.args.draft.now c.args.cycle _ c.in_ok-made.ensures.items c.requires.room.each

pub node_before-before-requires : goal.node_before-before-requires
node_before-before-requires c =
    rows_long c.args.net.now c.args.draft.now c.args.rows.now c.loop-index.index c.requires.rows
    (omega (arith, ap length c.inputs-input-items.ensures.value))

pub input_node-requires-clause-width : goal.input_node-requires-clause-width
input_node-requires-clause-width c =
    let net = c.args.net.now in
    let i = c.loop-index.index in
    let x = slice_index_or c.inputs-input-items.result.now i no_input in
    all_in (λ (x : Input). IsWidth x.width) net.inputs i x c.inputs-input-items.ensures.whole.inputs
    (at_place c.inputs-input-items.result.now net.inputs i no_input c.inputs-input-items.ensures.value (omega arith))

pub input_node-requires-clause-room : goal.input_node-requires-clause-room
input_node-requires-clause-room c =
    room_left c.args.draft.now c.loop-index.draft c.loop-index.index 1 1000000
    (omega (arith, ap length c.inputs-input-items.ensures.value, c.requires.few)) c.loop-index.invariant.extends
    c.requires.room

pub input_node-requires-clause-before : goal.input_node-requires-clause-before
input_node-requires-clause-before c =
    let net = c.args.net.now in
    let i = c.loop-index.index in
    let x = slice_index_or c.inputs-input-items.result.now i no_input in
    let at = at_place c.inputs-input-items.result.now net.inputs i no_input c.inputs-input-items.ensures.value
    (omega arith) in
    once_before net c.loop-index.draft c.args.rows.now i x c.node_before-before.result
    (rows_on net c.args.draft.now c.loop-index.draft i c.args.rows.now c.loop-index.invariant.extends c.requires.rows)
    at c.node_before-before.ensures.some

pub input_node-requires-clause-first : goal.input_node-requires-clause-first
input_node-requires-clause-first c = λ none.
    let count = c.node_before-before.ensures.none none in omega (arith, count, c.requires.count)

pub loop-index-preserved : goal.loop-index-preserved
loop-index-preserved c =
    let net = c.args.net.now in
    let i = c.loop-index.index in
    let x = slice_index_or c.inputs-input-items.result.now i no_input in
    let at = at_place c.inputs-input-items.result.now net.inputs i no_input c.inputs-input-items.ensures.value
    (omega arith) in
    rowing_next net c.args.draft.now c.loop-index.draft c.input_node.new.draft c.args.cycle i c.loop-index.made.items
    c.push.new.self.items x c.in_ok-id.id at c.loop-index.invariant c.in_ok-id.ensures.extends
    c.in_ok-id.ensures.means (c.in_ok-id.ensures.draft net) c.in_ok-push.ensures.items

pub returns-clause-extends : goal.returns-clause-extends
returns-clause-extends c =
    extends_more c.args.draft.now c.loop-index.draft c.loop-index.index 1000000
    (omega (arith, c.loop-index.invariant.low, c.requires.few)) c.loop-index.invariant.extends

pub returns-clause-row : goal.returns-clause-row
returns-clause-row c =
    rowing_row c.args.net.now c.args.draft.now c.loop-index.draft c.args.cycle c.loop-index.index c.args.rows.now
    c.loop-index.made.items c.from_vec.result c.from_vec.ensures
    (omega (arith, ap length c.inputs-input-items.ensures.value)) c.requires.count
    c.requires.rows c.loop-index.invariant

pub returns-clause-draft : goal.returns-clause-draft
returns-clause-draft c = λ last bound h low past.
    rowing_draft c.args.net.now c.args.draft.now c.loop-index.draft c.args.cycle c.loop-index.index last bound
    c.loop-index.made.items (omega (arith, c.loop-index.invariant.low, c.requires.few)) c.loop-index.invariant h low
    past
