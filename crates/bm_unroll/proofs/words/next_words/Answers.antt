use Rattle.std.specs.Prelude.{◌<◌, ◌≤◌, length}
use Rattle.std.proofs.Common.{arith}
use Rattle.wn_mem.specs.Words.{words_width}
use Rattle.bm_unroll.specs.Cycle.{widths_at}
use Rattle.bm_unroll.proofs.Writing.{writing_next, write_fits, write_in, first_width}
use Rattle.bm_unroll.proofs.words.next_words.Goals as goal

pub write_once-requires-clause-write : goal.write_once-requires-clause-write
write_once-requires-clause-write c =
    let old = c.args.frames.now in
    let now = c.loop-write.frames in
    let table = c.args.table.now in
    let width = words_width old c.args.words.now in
    let made = c.loop-write.made.items in
    let below : c.loop-write.write-index < length c.args.writes.now = omega arith in
    let some : 1 ≤ length made = omega (arith, c.loop-write.invariant.each, c.requires.some) in
    write_fits old now table width (words_width now made) _ c.copy_write-copy.result c.loop-write.invariant.adds
    c.requires.table
    (write_in (widths_at old table) width c.args.writes.now c.loop-write.write-index _ c.requires.writes below)
    c.copy_write-copy.ensures (first_width now width made some c.loop-write.invariant.there)

pub loop-write-preserved : goal.loop-write-preserved
loop-write-preserved c =
    let below : c.loop-write.write-index < length c.args.writes.now = omega arith in
    writing_next c.args.frames.now c.loop-write.frames c.write_once.new.frames c.args.writes.now c.args.table.now
    c.args.words.now c.loop-write.write-index _ c.copy_write-copy.result c.loop-write.made.items
    c.write_once.new.words.items c.requires.some c.requires.table c.requires.writes below c.copy_write-copy.ensures
    c.loop-write.invariant c.in_ok-write_once.ensures.adds c.in_ok-write_once.ensures.there
    c.in_ok-write_once.ensures.each c.in_ok-write_once.ensures.value
