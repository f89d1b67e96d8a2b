use Rattle.std.specs.Prelude.{not, ◌&&◌, ◌||◌}
use Rattle.bb_aig.specs.Bits.{differ, summed}
use Rattle.bb_aig.proofs.Growth.{made_on, made_self, lit_on}
use Rattle.bb_aig.proofs.gate.add_three.Goals as goal

pub add_two-requires-2-clause-left : goal.add_two-requires-2-clause-left
add_two-requires-2-clause-left c =
    let old = c.args.gates.now in
    (c.in_ok-first.ensures.bit _ _ (made_self old c.args.a c.requires.left)
    (made_self old c.args.b c.requires.right)).there

pub either-requires-clause-left : goal.either-requires-clause-left
either-requires-clause-left c =
    let old = c.args.gates.now in
    let carry = c.in_ok-first.ensures.carry _ _ (made_self old c.args.a c.requires.left)
    (made_self old c.args.b c.requires.right) in
    lit_on c.add_two.new.gates c.add_two-2.new.gates c.in_ok-first.first.carry c.in_ok-second.ensures.grows carry.there

pub either-requires-clause-right : goal.either-requires-clause-right
either-requires-clause-right c =
    let old = c.args.gates.now in
    let one = c.add_two.new.gates in
    let bit = c.in_ok-first.ensures.bit _ _ (made_self old c.args.a c.requires.left)
    (made_self old c.args.b c.requires.right) in
    let below = lit_on old one c.args.c c.in_ok-first.ensures.grows c.requires.below in
    (c.in_ok-second.ensures.carry _ _ (made_self one c.in_ok-first.first.bit bit.there)
    (made_self one c.args.c below)).there

pub returns-clause-bit : goal.returns-clause-bit
returns-clause-bit c = λ f h k p q r.
    let old = c.args.gates.now in
    let one = c.add_two.new.gates in
    let bit = c.in_ok-first.ensures.bit f h p q in
    let below = made_on old one k c.args.c c.in_ok-first.ensures.grows r in
    made_on c.add_two-2.new.gates c.either.new.gates
    (λ x. summed (f x) (h x) (k x)) c.in_ok-second.second.bit c.in_ok-carry.ensures.grows
    (c.in_ok-second.ensures.bit (λ x. differ (f x) (h x)) k bit below)

pub returns-clause-carry : goal.returns-clause-carry
returns-clause-carry c = λ f h k p q r.
    let old = c.args.gates.now in
    let one = c.add_two.new.gates in
    let two = c.add_two-2.new.gates in
    let bit = c.in_ok-first.ensures.bit f h p q in
    let below = made_on old one k c.args.c c.in_ok-first.ensures.grows r in
    let first = made_on one two (λ x. f x && h x) c.in_ok-first.first.carry c.in_ok-second.ensures.grows
    (c.in_ok-first.ensures.carry f h p q) in
    let second = c.in_ok-second.ensures.carry (λ x. differ (f x) (h x)) k bit below in
    c.in_ok-carry.ensures.made (λ x. f x && h x) (λ x. differ (f x) (h x) && k x) first second
