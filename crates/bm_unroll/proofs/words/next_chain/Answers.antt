use Rattle.std.specs.Prelude.{◌<◌, length}
use Rattle.std.proofs.Common.{arith, ap}
use Rattle.wn_mem.specs.Words.{words_width}
use Rattle.bm_unroll.proofs.Chaining.{chaining_none, chaining_fits, chaining_next, chained}
use Rattle.bm_unroll.proofs.words.next_chain.Goals as goal

pub loop-write-init : goal.loop-write-init
loop-write-init c =
    chaining_none c.args.frames.now c.args.writes.now c.args.table.now c.args.chain.now c.in_ok-made.made
    c.requires.chain c.in_ok-made.ensures

pub push-requires-clause-chain : goal.push-requires-clause-chain
push-requires-clause-chain c = c.loop-write.invariant.there

pub push-requires-clause-write : goal.push-requires-clause-write
push-requires-clause-write c =
    let below : c.loop-write.write-index < length c.args.writes.now = omega arith in
    chaining_fits c.args.frames.now c.args.writes.now c.args.table.now c.args.chain.now c.loop-write.made
    c.loop-write.write-index _ c.copy_write-copy.result c.requires.table c.requires.writes below
    c.copy_write-copy.ensures c.loop-write.invariant

pub loop-write-preserved : goal.loop-write-preserved
loop-write-preserved c =
    let below : c.loop-write.write-index < length c.args.writes.now = omega arith in
    let pushed = c.in_ok-push.ensures in
    chaining_next c.args.frames.now c.args.writes.now c.args.table.now c.args.chain.now c.loop-write.made
    c.push.new.self c.loop-write.write-index _ c.copy_write-copy.result c.requires.writes below
    c.copy_write-copy.ensures c.loop-write.invariant pushed.chain
    (ap (λ k. words_width c.args.frames.now k.words) pushed.exact) pushed.list

pub returns-clause-numbers : goal.returns-clause-numbers
returns-clause-numbers c = λ g.
    chained c.args.frames.now c.args.writes.now c.args.table.now c.args.chain.now c.loop-write.made
    c.loop-write.write-index (omega arith) c.loop-write.invariant g
