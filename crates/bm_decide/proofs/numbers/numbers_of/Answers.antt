use Rattle.std.proofs.Common.{get_or, refl}
use Rattle.bm_decide.proofs.Bits.{numbers_next, widths_left}
use Rattle.bm_decide.proofs.numbers.numbers_of.Goals as goal

pub loop-width-preserved : goal.loop-width-preserved
loop-width-preserved c =
    let i = c.loop-width.width-index in
    let ws = c.args.widths.now in
    record {
      widths = widths_left ws i c.loop-width-test.true c.loop-width.invariant.widths;
      made = numbers_next c.loop-width.made.items c.push.new.self.items _ c.loop-width.rest.now c.cut.result.0.now
          c.cut.result.1.now i (get_or ws i 0) c.number_of.result ws c.loop-width-test.true refl c.cut.ensures.first
          c.cut.ensures.rest c.number_of.ensures c.loop-width.invariant.made c.in_ok-push.ensures.items;
    }
