use Rattle.std.specs.Prelude.{◌<◌, length}
use Rattle.std.proofs.Common.{arith}
use Rattle.wn_chain.proofs.Behind.{following_none, following_next, next_write, followed}
use Rattle.wn_chain.proofs.writes.word_after_all.Goals as goal

pub loop-write-init : goal.loop-write-init
loop-write-init c = following_none c.args.net.now c.args.writes.now c.args.word c.args.addr c.requires.word

pub word_after_write-requires-clause-write : goal.word_after_write-requires-clause-write
word_after_write-requires-clause-write c =
    let below : c.loop-write.write-index < length c.args.writes.now = omega arith in
    next_write c.args.net.now c.loop-write.net c.args.writes.now c.args.word c.args.addr c.loop-write.write-index
    c.loop-write.found _ c.requires.writes below c.loop-write.invariant

pub loop-write-preserved : goal.loop-write-preserved
loop-write-preserved c =
    let below : c.loop-write.write-index < length c.args.writes.now = omega arith in
    following_next c.args.net.now c.loop-write.net c.word_after_write.new.net c.args.writes.now c.args.word c.args.addr
    c.loop-write.write-index c.loop-write.found c.in_ok-found.found _ c.requires.writes c.requires.addr below c.loop-write.invariant
    c.in_ok-found.ensures.adds c.in_ok-found.ensures.shows

pub returns-clause-value : goal.returns-clause-value
returns-clause-value c = λ g words given below is.
    followed c.args.net.now c.loop-write.net c.args.writes.now c.args.word c.args.addr c.loop-write.write-index
    c.loop-write.found (omega arith) c.loop-write.invariant g words given below is
