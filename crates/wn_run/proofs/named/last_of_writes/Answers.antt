use Rattle.std.proofs.Common.{arith}
use Rattle.wn_net.specs.declared.parts.MemWrite.{MemWrite}
use Rattle.wn_run.proofs.Later.{next_named}
use Rattle.wn_run.proofs.named.last_of_writes.Goals as goal

pub loop-write-preserved : goal.loop-write-preserved
loop-write-preserved c =
    let ws = c.args.writes.now in
    let i = c.loop-write.write-index in
    let last = c.loop-write.last in
    let more = c.last_of_write-last.result in
    let all = c.loop-write.invariant in
    let one = c.last_of_write-last.ensures in (
      omega (arith, all.0, one.more),
      next_named (λ (w : MemWrite). w.enable) ws i last more _ c.loop-write-test.true one.more all.1 one.enable,
      next_named (λ (w : MemWrite). w.addr) ws i last more _ c.loop-write-test.true one.more all.2 one.addr,
      next_named (λ (w : MemWrite). w.mask) ws i last more _ c.loop-write-test.true one.more all.3 one.mask,
      next_named (λ (w : MemWrite). w.value) ws i last more _ c.loop-write-test.true one.more all.4 one.value,
    )
