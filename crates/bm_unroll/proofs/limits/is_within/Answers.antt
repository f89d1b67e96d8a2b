use Rattle.std.proofs.Common.{arith, rules}
use Rattle.bm_unroll.proofs.Items.{at_read}
use Rattle.bm_unroll.proofs.Room.{room_next, room_past}
use Rattle.bm_unroll.proofs.limits.is_within.Goals as goal

pub returns-then-words-room : goal.returns-then-words-room
returns-then-words-room c =
    let net = c.args.net.now in
    let i = c.loop-mem.mem-index in
    let at = at_read c.mems-mem-items.result.now net.mems i c.mem-item.result c.mems-mem-items.ensures.value
    (omega arith) c.mem-item.is in (
      λ t. search rules,
      λ within. absurd (room_past net c.loop-mem.room i c.mem-item.result at c.if-words-room.true c.loop-mem.invariant
          within),
    )

pub loop-mem-preserved : goal.loop-mem-preserved
loop-mem-preserved c =
    let net = c.args.net.now in
    let i = c.loop-mem.mem-index in
    let at = at_read c.mems-mem-items.result.now net.mems i c.mem-item.result c.mems-mem-items.ensures.value
    (omega arith) c.mem-item.is in
    room_next net c.loop-mem.room i c.mem-item.result at c.if-words-room.false c.loop-mem.invariant
