use Rattle.std.specs.Prelude.{◌≡◌}
use Rattle.std.proofs.Common.{sym, ◌∙◌, arith}
use Rattle.fv_bits.specs.Bits.{part}
use Rattle.wn_net.specs.Net.{width_at, value_at}
use Rattle.wn_net.proofs.Moved.{value_below}
use Rattle.vl_lower_assign.proofs.Spliced.{whole_part}
use Rattle.vl_lower_assign.proofs.bits.part_of.Goals as goal

pub returns-then-count-width-clause-shows : goal.returns-then-count-width-clause-shows
returns-then-count-width-clause-shows c =
    let net = c.args.net.now in
    let w = width_at net c.args.value in
    let same : w ≡ c.args.count = sym c.width-width.ensures.value ∙ sym c.if-count-width.true in
    let none : c.args.skip ≡ 0 = omega (arith, c.requires.within, same) in
    record {
      node = (c.requires.value, same);
      value = λ g given.
          let x = value_at net g c.args.value in
          whole_part w x (value_below net g c.width-width.ensures.whole given c.args.value)
          ∙ (λ i. part (sym none i) (same i) x);
    }
