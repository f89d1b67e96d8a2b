use Rattle.std.specs.Prelude.{◌<◌, ◌≤◌, length}
use Rattle.std.proofs.Common.{arith, ap}
use Rattle.bm_unroll.proofs.Moving.{mems_long, memory_read, moved_numbers, moved_shape, moving_read, writes_read}
use Rattle.bm_unroll.proofs.next.next_memories.Goals as goal

pub next_memory-requires-clause-memory : goal.next_memory-requires-clause-memory
next_memory-requires-clause-memory c =
    let mems = c.args.mems.now in
    let below : c.loop-index.index < length mems = omega (
      arith,
      mems_long c.args.frames.now mems c.args.net.now.mems c.requires.shape,
      ap length c.mems-mem-items.ensures.value,
    ) in
    memory_read c.args.frames.now c.loop-index.frames mems c.as_slice-old.result.now c.loop-index.index
    c.index-old-index.result c.loop-index.invariant.adds c.requires.mems c.as_slice-old.ensures below
    c.index-old-index.is

pub next_memory-requires-clause-writes : goal.next_memory-requires-clause-writes
next_memory-requires-clause-writes c =
    let net = c.args.net.now in
    let below : c.loop-index.index < length net.mems = omega (arith, ap length c.mems-mem-items.ensures.value) in
    writes_read c.args.frames.now c.loop-index.frames net c.args.table.now c.args.mems.now c.as_slice-old.result.now
    c.mems-mem-items.result.now c.loop-index.index c.mem-item.result c.index-old-index.result c.requires.widths
    c.requires.table c.requires.mems c.loop-index.invariant.adds c.mems-mem-items.ensures.whole c.requires.shape below
    c.mems-mem-items.ensures.value c.mem-item.is c.as_slice-old.ensures c.index-old-index.is

pub loop-index-preserved : goal.loop-index-preserved
loop-index-preserved c =
    let net = c.args.net.now in
    let below : c.loop-index.index < length net.mems = omega (arith, ap length c.mems-mem-items.ensures.value) in
    moving_read c.args.frames.now c.loop-index.frames c.next_memory.new.frames net c.args.table.now c.args.mems.now
    c.as_slice-old.result.now c.mems-mem-items.result.now c.loop-index.index c.loop-index.made.items
    c.push.new.self.items c.mem-item.result c.index-old-index.result c.in_ok-next.next c.requires.shape below
    c.mems-mem-items.ensures.whole c.requires.table c.requires.mems c.loop-index.invariant
    c.in_ok-next.ensures.adds c.mems-mem-items.ensures.value c.mem-item.is c.as_slice-old.ensures c.index-old-index.is
    c.in_ok-next.ensures.there c.in_ok-next.ensures.width c.in_ok-next.ensures.numbers c.in_ok-push.ensures.items

pub returns-clause-shape : goal.returns-clause-shape
returns-clause-shape c =
    let net = c.args.net.now in
    let past : length net.mems ≤ c.loop-index.index = omega (arith, ap length c.mems-mem-items.ensures.value) in
    moved_shape c.args.frames.now c.loop-index.frames net c.args.table.now c.args.mems.now c.loop-index.index
    c.loop-index.made.items past c.loop-index.invariant

pub returns-clause-numbers : goal.returns-clause-numbers
returns-clause-numbers c = λ g given.
    let net = c.args.net.now in
    let past : length net.mems ≤ c.loop-index.index = omega (arith, ap length c.mems-mem-items.ensures.value) in
    moved_numbers c.args.frames.now c.loop-index.frames net c.args.table.now c.args.mems.now c.loop-index.index
    c.loop-index.made.items g given past c.loop-index.invariant
