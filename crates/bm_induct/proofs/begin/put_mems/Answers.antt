use Rattle.std.proofs.Common.{arith}
use Rattle.wn_net.specs.Net.{IsMemOf}
use Rattle.bm_induct.proofs.Items.{all_in, at_place, get_within}
use Rattle.bm_induct.proofs.Begun.{mems_next, mems_many}
use Rattle.bm_induct.proofs.begin.put_mems.Goals as goal

pub put_mem-requires : goal.put_mem-requires
put_mem-requires c =
    let net = c.args.net.now in
    let i = c.loop-own.own-index in
    let m = c.own-item.result in
    let at = at_place c.mems-own-items.result.now net.mems i m m c.mems-own-items.ensures.value (omega arith)
    c.own-item.is in
    let own = all_in (IsMemOf net) net.mems i m c.mems-own-items.ensures.whole.mems at in
    let many = mems_many c.args.how net c.loop-own.made i m c.loop-own.invariant at in
    let below = get_within net.mems i m at in
    let few = c.mems-own-items.ensures.whole.few_mems in
    record {
      width = own.width;
      words = own.words;
      each = own.each;
      init = own.init;
      room = omega (arith, many, below, few);
    }

pub loop-own-preserved : goal.loop-own-preserved
loop-own-preserved c =
    let net = c.args.net.now in
    let i = c.loop-own.own-index in
    let m = c.own-item.result in
    let at = at_place c.mems-own-items.result.now net.mems i m m c.mems-own-items.ensures.value (omega arith)
    c.own-item.is in
    mems_next c.args.how net c.loop-own.made c.put_mem.new.made i m c.loop-own.invariant at c.in_ok-put_mem.ensures
