use Rattle.std.specs.Prelude.{bit_and, bit_or}
use Rattle.std.proofs.Common.{◌∙◌}
use Rattle.fv_bits.specs.Bits.{complement, ones}
use Rattle.wn_net.specs.Net.{width_at, value_at}
use Rattle.wn_net.proofs.Laws.{value_on, given_on}
use Rattle.wn_net.proofs.Moved.{value_below}
use Rattle.vl_lower_assign.specs.Puts.{put_bits}
use Rattle.vl_lower_assign.proofs.Masking.{masked_is, unmasked}
use Rattle.vl_lower_assign.proofs.spread.put_at.Goals as goal

pub returns-in_ok-whole-in-Varying-clause-value : goal.returns-in_ok-whole-in-Varying-clause-value
returns-in_ok-whole-in-Varying-clause-value c = λ g p given here.
    let net = c.args.net.now in
    let mid = c.spread_bits.new.net in
    let made = c.in_ok-spread-in-Varying.ensures in
    let n = width_at net c.args.value in
    let w = width_at net c.args.vector in
    let y = value_at net g c.args.value in
    let x = value_at net g c.args.vector in
    let wide = c.width-width.ensures.value in
    let w_is = made.adds.keeps.widths c.args.vector c.requires.vector in
    let x_is = value_on net mid g c.args.vector made.adds c.requires.vector in
    let m_is = made.mask g p given here ∙ (λ i. put_bits n (wide i) p (ones n) 0) in
    let z_is = made.bits g p given here ∙ (λ i. put_bits n (wide i) p y 0) in
    c.in_ok-whole-in-Varying.ensures.shows.value g (given_on net mid g made.adds given)
    ∙ (λ i. bit_or (z_is i) (bit_and (complement (w_is i) (m_is i)) (x_is i)))
    ∙ unmasked n w p y x
    ∙ masked_is n w p y x (value_below net g c.width-width.ensures.whole given c.args.vector)
