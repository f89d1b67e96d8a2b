use Rattle.std.specs.Prelude.{◌≡◌, ◌==◌, ◌+◌, ◌≤◌, ◌^◌}
use Rattle.std.proofs.Common.{◌∙◌, arith, ap}
use Rattle.std.proofs.Math.Pow.{pow_mono}
use Rattle.fv_bits.specs.Bits.{bit, joined}
use Rattle.wn_net.specs.Net.{value_at, width_at}
use Rattle.wn_net.proofs.Laws.{value_on}
use Rattle.wn_net.proofs.Moved.{value_below}
use Rattle.wn_mem.proofs.After.{asks_is, one_bit}
use Rattle.wn_mem.proofs.write.asks_for.Goals as goal

pub overflow_add-front_bit : goal.overflow_add-front_bit
overflow_add-front_bit c =
    let few = c.requires.asked.few in
    let most : 2 ^ width_at c.args.net.now c.args.write.now.addr ≤ 2 ^ 127 = pow_mono {j = 127} (omega (arith, few)) in
    let front : c.front_bit.result ≡ 2 ^ width_at c.args.net.now c.args.write.now.addr =
    c.front_bit.ensures ∙ ap (λ w. 2 ^ w) c.width-width.ensures.value in
    omega (arith, most, front, c.requires.reached)

pub returns-clause-value : goal.returns-clause-value
returns-clause-value c = λ g given.
    let net = c.args.net.now in
    let one = c.konst.new.self in
    let write = c.args.write.now in
    let asked = c.requires.asked in
    let w = width_at net write.addr in
    let first = c.in_ok-number.ensures.built in
    let e = value_at net g write.enable in
    let a = value_at net g write.addr in
    let asked_is : value_at one g c.args.asked ≡ joined w e a =
    value_on net one g c.args.asked first.adds asked.there.0 ∙ asked.value g in
    let number_is : value_at one g c.in_ok-number.number ≡ 2 ^ w + c.args.index =
    first.value g ∙ c.in-Some.ensures.value
    ∙ ap (λ x. x + c.args.index) (c.front_bit.ensures ∙ ap (λ u. 2 ^ u) c.width-width.ensures.value) in
    c.in_ok-hit.ensures.built.value g
    ∙ (λ i. bit (asked_is i == number_is i))
    ∙ ap bit (asks_is w e a c.args.index (one_bit net g write.enable c.width-width.ensures.whole given c.requires.enable)
    (value_below net g c.width-width.ensures.whole given write.addr) c.requires.reached)
