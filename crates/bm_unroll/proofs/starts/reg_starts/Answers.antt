use Rattle.std.specs.Prelude.{length, slice_index_or}
use Rattle.std.proofs.Common.{ap, arith}
use Rattle.wn_net.specs.declared.parts.Init.TheVariants.{Free}
use Rattle.wn_net.specs.declared.parts.Reg.{Reg}
use Rattle.wn_net.specs.Net.{IsRegOf}
use Rattle.bm_unroll.proofs.Items.{all_in, at_place}
use Rattle.bm_unroll.proofs.Drafting.{draft_more, extends_more, room_left}
use Rattle.bm_unroll.proofs.FirstState.{holding_all, holding_next, holding_none}
use Rattle.bm_unroll.proofs.starts.reg_starts.Goals as goal

-- what a read past the last register would give
abbrev no_reg : Reg
no_reg = record { width = 0; init = Free; next = 0 }

pub loop-index-init : goal.loop-index-init
loop-index-init c = holding_none c.args.net.now c.args.draft.now _ c.in_ok-made.ensures.items c.requires.room.each

pub start_node-requires-clause-width : goal.start_node-requires-clause-width
start_node-requires-clause-width c =
    let net = c.args.net.now in
    let i = c.loop-index.index in
    let r = slice_index_or c.regs-reg-items.result.now i no_reg in
    (all_in (IsRegOf net) net.regs i r c.regs-reg-items.ensures.whole.regs
    (at_place c.regs-reg-items.result.now net.regs i no_reg c.regs-reg-items.ensures.value (omega arith))).width

pub start_node-requires-clause-init : goal.start_node-requires-clause-init
start_node-requires-clause-init c =
    let net = c.args.net.now in
    let i = c.loop-index.index in
    let r = slice_index_or c.regs-reg-items.result.now i no_reg in
    (all_in (IsRegOf net) net.regs i r c.regs-reg-items.ensures.whole.regs
    (at_place c.regs-reg-items.result.now net.regs i no_reg c.regs-reg-items.ensures.value (omega arith))).init

pub start_node-requires-clause-room : goal.start_node-requires-clause-room
start_node-requires-clause-room c =
    room_left c.args.draft.now c.loop-index.draft c.loop-index.index 1 (length c.args.net.now.regs)
    (omega (arith, ap length c.regs-reg-items.ensures.value)) c.loop-index.invariant.extends c.requires.room

pub loop-index-preserved : goal.loop-index-preserved
loop-index-preserved c =
    let net = c.args.net.now in
    let i = c.loop-index.index in
    let r = slice_index_or c.regs-reg-items.result.now i no_reg in
    holding_next net c.args.draft.now c.loop-index.draft c.start_node.new.draft i c.loop-index.made.items
    c.push.new.self.items r c.in_ok-id.id
    (at_place c.regs-reg-items.result.now net.regs i no_reg c.regs-reg-items.ensures.value (omega arith)) c.loop-index.invariant c.in_ok-id.ensures.extends c.in_ok-id.ensures.means
    c.in_ok-id.ensures.draft c.in_ok-push.ensures.items

pub returns-clause-extends : goal.returns-clause-extends
returns-clause-extends c =
    extends_more c.args.draft.now c.loop-index.draft c.loop-index.index (length c.args.net.now.regs)
    c.loop-index.invariant.low c.loop-index.invariant.extends

pub returns-clause-means : goal.returns-clause-means
returns-clause-means c =
    holding_all c.args.net.now c.args.draft.now c.loop-index.draft c.loop-index.index c.loop-index.made.items
    c.from_vec.result c.from_vec.ensures (omega (arith, ap length c.regs-reg-items.ensures.value)) c.loop-index.invariant

pub returns-clause-draft : goal.returns-clause-draft
returns-clause-draft c = λ cycle h.
    draft_more c.args.net.now cycle c.loop-index.index _ c.loop-index.draft
    (omega (arith, c.loop-index.invariant.low, c.requires.few)) (c.loop-index.invariant.draft cycle h)
