use Rattle.std.specs.Prelude.{length, slice_index_or}
use Rattle.std.proofs.Common.{ap, arith}
use Rattle.wn_net.specs.declared.parts.Init.TheVariants.{Free}
use Rattle.wn_net.specs.Net.{IsInitOf}
use Rattle.bm_unroll.proofs.Items.{all_in, at_place}
use Rattle.bm_unroll.proofs.Drafting.{draft_more, extends_more, room_left}
use Rattle.bm_unroll.proofs.FirstState.{wording_all, wording_next, wording_none}
use Rattle.bm_unroll.proofs.starts.word_starts.Goals as goal

pub loop-index-init : goal.loop-index-init
loop-index-init c = wording_none c.args.mem.now c.args.number c.args.draft.now _ c.in_ok-made.ensures.items c.requires.room.each

pub start_node-requires-clause-init : goal.start_node-requires-clause-init
start_node-requires-clause-init c =
    let mem = c.args.mem.now in
    let i = c.loop-index.index in
    let x = slice_index_or c.as_slice-inits.result.now i Free in
    all_in (IsInitOf mem.width) mem.init i x c.requires.init
    (at_place c.as_slice-inits.result.now mem.init i Free c.as_slice-inits.ensures (omega arith))

pub start_node-requires-clause-room : goal.start_node-requires-clause-room
start_node-requires-clause-room c =
    room_left c.args.draft.now c.loop-index.draft c.loop-index.index 1 (length c.args.mem.now.init)
    (omega (arith, ap length c.as_slice-inits.ensures)) c.loop-index.invariant.extends c.requires.room

pub loop-index-preserved : goal.loop-index-preserved
loop-index-preserved c =
    let mem = c.args.mem.now in
    let i = c.loop-index.index in
    let x = slice_index_or c.as_slice-inits.result.now i Free in
    wording_next mem c.args.number c.args.draft.now c.loop-index.draft c.start_node.new.draft i
    c.loop-index.made.items c.push.new.self.items x c.in_ok-id.id
    (at_place c.as_slice-inits.result.now mem.init i Free c.as_slice-inits.ensures (omega arith)) c.loop-index.invariant c.in_ok-id.ensures.extends c.in_ok-id.ensures.means
    c.in_ok-id.ensures.draft c.in_ok-push.ensures.items

pub returns-clause-extends : goal.returns-clause-extends
returns-clause-extends c =
    extends_more c.args.draft.now c.loop-index.draft c.loop-index.index (length c.args.mem.now.init)
    c.loop-index.invariant.low c.loop-index.invariant.extends

pub returns-clause-means : goal.returns-clause-means
returns-clause-means c =
    wording_all c.args.mem.now c.args.number c.args.draft.now c.loop-index.draft c.loop-index.index
    c.loop-index.made.items c.from_vec.result c.from_vec.ensures (omega (arith, ap length c.as_slice-inits.ensures))
    c.loop-index.invariant

pub returns-clause-draft : goal.returns-clause-draft
returns-clause-draft c = λ net cycle at h.
    draft_more net cycle _ _ c.loop-index.draft (omega (arith, c.loop-index.invariant.low, c.requires.few))
    (c.loop-index.invariant.draft net cycle at h)
