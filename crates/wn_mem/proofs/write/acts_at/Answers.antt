use Rattle.std.specs.Prelude.{◌≡◌, ◌==◌, bit_and}
use Rattle.std.proofs.Common.{◌∙◌}
use Rattle.fv_bits.specs.Bits.{bit}
use Rattle.wn_net.specs.Net.{value_at}
use Rattle.wn_net.proofs.Laws.{adds_on, value_on}
use Rattle.wn_mem.proofs.After.{both_are, one_bit}
use Rattle.wn_mem.proofs.write.acts_at.Goals as goal

pub returns-clause-value : goal.returns-clause-value
returns-clause-value c = λ g given.
    let net = c.args.net.now in
    let one = c.konst.new.self in
    let two = c.eq.new.self in
    let write = c.args.write.now in
    let first = c.in_ok-number.ensures.built in
    let second = c.in_ok-test.ensures.built in
    let e = value_at net g write.enable in
    let test : value_at two g c.in_ok-test.test ≡ bit (value_at net g write.addr == c.args.index) =
    second.value g
    ∙ (λ i. bit (value_on net one g write.addr first.adds c.requires.addr i
    == (first.value g ∙ c.in-Some.ensures.value) i)) in
    c.in_ok-acts.ensures.built.value g
    ∙ (λ i. bit_and
    (value_on net two g write.enable (adds_on net one two first.adds second.adds) c.requires.enable.0 i) (test i))
    ∙ both_are e (value_at net g write.addr == c.args.index)
    (one_bit net g write.enable c.width.ensures.whole given c.requires.enable)
