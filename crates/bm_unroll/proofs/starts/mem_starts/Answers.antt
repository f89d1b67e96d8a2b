use Rattle.std.specs.Prelude.{length, map, sum, take}
use Rattle.std.proofs.Common.{ap, arith}
use Rattle.wn_net.specs.declared.parts.Mem.{Mem}
use Rattle.wn_net.specs.Net.{IsMemOf}
use Rattle.bm_unroll.proofs.Items.{all_in, at_read}
use Rattle.bm_unroll.proofs.Drafting.{room_left}
use Rattle.bm_unroll.proofs.FirstState.{storing_all, storing_draft, storing_few, storing_next, storing_none, words_few}
use Rattle.bm_unroll.proofs.starts.mem_starts.Goals as goal

pub loop-index-init : goal.loop-index-init
loop-index-init c = storing_none c.args.net.now c.args.draft.now _ c.in_ok-made.ensures.items c.requires.room.each

pub word_starts-requires-clause-width : goal.word_starts-requires-clause-width
word_starts-requires-clause-width c =
    let net = c.args.net.now in
    let i = c.loop-index.index in
    (all_in (IsMemOf net) net.mems i c.mem-item.result c.mems-mem-items.ensures.whole.mems
    (at_read c.mems-mem-items.result.now net.mems i c.mem-item.result c.mems-mem-items.ensures.value (omega arith)
    c.mem-item.is)).width

pub word_starts-requires-clause-init : goal.word_starts-requires-clause-init
word_starts-requires-clause-init c =
    let net = c.args.net.now in
    let i = c.loop-index.index in
    (all_in (IsMemOf net) net.mems i c.mem-item.result c.mems-mem-items.ensures.whole.mems
    (at_read c.mems-mem-items.result.now net.mems i c.mem-item.result c.mems-mem-items.ensures.value (omega arith)
    c.mem-item.is)).init

pub word_starts-requires-clause-few : goal.word_starts-requires-clause-few
word_starts-requires-clause-few c =
    let net = c.args.net.now in
    let i = c.loop-index.index in
    let at = at_read c.mems-mem-items.result.now net.mems i c.mem-item.result c.mems-mem-items.ensures.value
    (omega arith) c.mem-item.is in
    let own = all_in (IsMemOf net) net.mems i c.mem-item.result c.mems-mem-items.ensures.whole.mems at in
    omega (arith, words_few net i c.mem-item.result at own, c.requires.few)

pub word_starts-requires-clause-room : goal.word_starts-requires-clause-room
word_starts-requires-clause-room c =
    let net = c.args.net.now in
    let i = c.loop-index.index in
    let at = at_read c.mems-mem-items.result.now net.mems i c.mem-item.result c.mems-mem-items.ensures.value
    (omega arith) c.mem-item.is in
    let own = all_in (IsMemOf net) net.mems i c.mem-item.result c.mems-mem-items.ensures.whole.mems at in
    room_left c.args.draft.now c.loop-index.draft (sum (take i (map (λ (m : Mem). m.words) net.mems)))
    (length c.mem-item.result.init) (sum (map (λ (m : Mem). m.words) net.mems))
    (words_few net i c.mem-item.result at own) c.loop-index.invariant.extends c.requires.room

pub loop-index-preserved : goal.loop-index-preserved
loop-index-preserved c =
    let net = c.args.net.now in
    let i = c.loop-index.index in
    let at = at_read c.mems-mem-items.result.now net.mems i c.mem-item.result c.mems-mem-items.ensures.value
    (omega arith) c.mem-item.is in
    let own = all_in (IsMemOf net) net.mems i c.mem-item.result c.mems-mem-items.ensures.whole.mems at in
    storing_next net c.args.draft.now c.loop-index.draft c.word_starts.new.draft i c.loop-index.made.items
    c.push.new.self.items c.mem-item.result c.in_ok-words.words at own c.loop-index.invariant
    c.in_ok-words.ensures.extends c.in_ok-words.ensures.means c.in_ok-words.ensures.draft c.in_ok-push.ensures.items

pub returns-clause-extends : goal.returns-clause-extends
returns-clause-extends c =
    storing_few c.args.net.now c.args.draft.now c.loop-index.draft c.loop-index.index c.loop-index.made.items
    c.loop-index.invariant

pub returns-clause-means : goal.returns-clause-means
returns-clause-means c =
    storing_all c.args.net.now c.args.draft.now c.loop-index.draft c.loop-index.index c.loop-index.made.items
    c.from_vec.result c.from_vec.ensures (omega (arith, ap length c.mems-mem-items.ensures.value)) c.loop-index.invariant

pub returns-clause-draft : goal.returns-clause-draft
returns-clause-draft c =
    storing_draft c.args.net.now c.args.draft.now c.loop-index.draft c.loop-index.index c.loop-index.made.items
    c.mems-mem-items.ensures.whole c.loop-index.invariant
