use Rattle.std.specs.Prelude.{List, map}
use Rattle.std.specs.List.{AllByRecursion}
use Rattle.std.proofs.Common.{arith, ap, ◌∙◌, subst, sym}
use Rattle.wn_net.specs.declared.parts.MemWrite.{MemWrite}
use Rattle.wn_net.specs.Net.{IsWriteOf}
use Rattle.wn_net.specs.Changes.{mem_width}
use Rattle.bm_induct.specs.Stages.{moved_write, with_writes}
use Rattle.bm_induct.proofs.Items.{at_place}
use Rattle.bm_induct.proofs.Rest.{mem_fits, mem_writes_next}
use Rattle.bm_induct.proofs.behind.put_mem_writes.Goals as goal

pub put_writes-requires-clause-mem : goal.put_writes-requires-clause-mem
put_writes-requires-clause-mem c =
    let net = c.args.net.now in
    let i = c.loop-index.index in
    let m = c.own-item.result in
    (mem_fits c.args.how net c.loop-index.made i m c.mems-own-items.ensures.whole c.loop-index.invariant.writes
    (at_place c.mems-own-items.result.now net.mems i m m c.mems-own-items.ensures.value (omega arith) c.own-item.is)).0

pub put_writes-requires-clause-writes : goal.put_writes-requires-clause-writes
put_writes-requires-clause-writes c =
    let net = c.args.net.now in
    let i = c.loop-index.index in
    let m = c.own-item.result in
    let made = c.loop-index.made in
    let P : List MemWrite → Type 0 = λ ws. AllByRecursion (IsWriteOf net (mem_width made i)) ws in
    subst P (sym c.as_slice.ensures)
    (mem_fits c.args.how net made i m c.mems-own-items.ensures.whole c.loop-index.invariant.writes
    (at_place c.mems-own-items.result.now net.mems i m m c.mems-own-items.ensures.value (omega arith) c.own-item.is)).1

pub loop-index-preserved : goal.loop-index-preserved
loop-index-preserved c =
    let net = c.args.net.now in
    let i = c.loop-index.index in
    let m = c.own-item.result in
    let made = c.loop-index.made in
    record {
      writes =
          mem_writes_next c.args.how net made c.put_writes.new.made i m c.loop-index.invariant.writes
          (at_place c.mems-own-items.result.now net.mems i m m c.mems-own-items.ensures.value (omega arith)
          c.own-item.is)
          (c.in_ok-put_writes.ensures.new
          ∙ ap (λ (ws : List MemWrite). record made { mems = with_writes i (map (moved_write net) ws) made.mems })
          c.as_slice.ensures);
      stand = c.in_ok-put_writes.ensures.stand;
    }
