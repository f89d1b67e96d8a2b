use Rattle.std.specs.Prelude.{not, ◌&&◌, ◌||◌}
use Rattle.bb_aig.specs.Graph.{lit_at}
use Rattle.bb_aig.specs.Bits.{differ}
use Rattle.bb_aig.proofs.Growth.{made_by, made_other, made_on, made_self, lit_on, grows_on, two_of}
use Rattle.bb_aig.proofs.gate.add_two.Goals as goal

pub and-requires-3-clause-left : goal.and-requires-3-clause-left
and-requires-3-clause-left c =
    let old = c.args.gates.now in
    let carry = c.in_ok-carry.ensures.made _ _ (made_self old c.args.a c.requires.left)
    (made_self old c.args.b c.requires.right) in
    c.complement-3.ensures.there c.and-2.new.self
    (lit_on c.and.new.self c.and-2.new.self c.in_ok-carry.carry c.in_ok-neither.ensures.grows carry.there)

pub and-requires-3-clause-right : goal.and-requires-3-clause-right
and-requires-3-clause-right c =
    let old = c.args.gates.now in
    let now = c.and.new.self in
    let left = c.complement.ensures.there now (lit_on old now c.args.a c.in_ok-carry.ensures.grows c.requires.left) in
    let right = c.complement-2.ensures.there now
    (lit_on old now c.args.b c.in_ok-carry.ensures.grows c.requires.right) in
    let neither = c.in_ok-neither.ensures.made _ _ (made_self now c.complement.result left)
    (made_self now c.complement-2.result right) in
    c.complement-4.ensures.there c.and-2.new.self neither.there

pub returns-clause-bit : goal.returns-clause-bit
returns-clause-bit c = λ f h p q.
    let old = c.args.gates.now in
    let one = c.and.new.self in
    let two = c.and-2.new.self in
    let left = made_other one f c.args.a c.complement.result (c.complement.ensures.there one)
    (c.complement.ensures.turned one) (made_on old one f c.args.a c.in_ok-carry.ensures.grows p) in
    let right = made_other one h c.args.b c.complement-2.result (c.complement-2.ensures.there one)
    (c.complement-2.ensures.turned one) (made_on old one h c.args.b c.in_ok-carry.ensures.grows q) in
    let carry = c.in_ok-carry.ensures.made f h p q in
    let neither = c.in_ok-neither.ensures.made (λ x. not (f x)) (λ x. not (h x)) left right in
    let above = made_on one two (λ x. f x && h x) c.in_ok-carry.carry c.in_ok-neither.ensures.grows carry in
    let not_both = made_other two (λ x. f x && h x) c.in_ok-carry.carry c.complement-3.result
    (c.complement-3.ensures.there two) (c.complement-3.ensures.turned two) above in
    let some = made_other two (λ x. not (f x) && not (h x)) c.in_ok-neither.neither c.complement-4.result
    (c.complement-4.ensures.there two) (c.complement-4.ensures.turned two) neither in
    made_by c.and-3.new.self (λ x. not (f x && h x) && not (not (f x) && not (h x)))
    (λ x. differ (f x) (h x)) c.in_ok-bit.bit
    (λ x. two_of (f x) (h x)) (c.in_ok-bit.ensures.made (λ x. not (f x && h x))
    (λ x. not (not (f x) && not (h x))) not_both some)

pub returns-clause-carry : goal.returns-clause-carry
returns-clause-carry c = λ f h p q.
    made_on c.and.new.self c.and-3.new.self (λ x. f x && h x) c.in_ok-carry.carry
    (grows_on c.and.new.self c.and-2.new.self c.and-3.new.self c.in_ok-neither.ensures.grows c.in_ok-bit.ensures.grows)
    (c.in_ok-carry.ensures.made f h p q)
