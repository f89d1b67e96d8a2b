use Rattle.std.specs.Prelude.{◌-◌, ◌==◌}
use Rattle.std.proofs.Common.{ap, arith, ◌∙◌}
use Rattle.std.proofs.Math.Pow.{shr_mod}
use Rattle.fv_bits.specs.Bits.{bit}
use Rattle.wn_net.proofs.Laws.{value_on, built_node}
use Rattle.wn_mem.proofs.Tree.{address_fits}
use Rattle.wn_mem.proofs.bits.is_low.Goals as goal

pub returns-clause-value : goal.returns-clause-value
returns-clause-value c = λ g given.
    let net = c.args.net.now in
    let one = c.slice.new.self in
    let two = c.zero_of.new.net in
    let high = c.in_ok-high.ensures.built in
    let none = c.in_ok-none.ensures in
    let test = c.in_ok-test.ensures.built in
    let rest = c.width-width.result - c.args.count in
    test.value g
    ∙ (λ i. bit ((value_on one two g c.in_ok-high.high none.adds (built_node _ _ _ _ _ _ high).0 ∙ high.value g) i
    == none.zero.value g i))
    ∙ ap (λ q. bit (q == 0)) (shr_mod rest c.args.count
    (address_fits net g c.args.addr c.args.count rest c.width-width.ensures.whole given
    (omega (arith, c.width-width.ensures.value, c.requires.more))))
