use Rattle.std.specs.Prelude.{not, ◌&&◌, ◌||◌}
use Rattle.bb_aig.specs.Bits.{pick}
use Rattle.bb_aig.proofs.Growth.{made_by, made_other, made_on, made_self, lit_on, pick_of}
use Rattle.bb_aig.proofs.gate.mux.Goals as goal

pub either-requires-clause-left : goal.either-requires-clause-left
either-requires-clause-left c =
    let old = c.args.gates.now in
    let first = c.in_ok-first.ensures.made _ _ (made_self old c.args.test c.requires.test)
    (made_self old c.args.a c.requires.left) in
    lit_on c.and.new.self c.and-2.new.self c.in_ok-first.first c.in_ok-second.ensures.grows first.there

pub either-requires-clause-right : goal.either-requires-clause-right
either-requires-clause-right c =
    let old = c.args.gates.now in
    let one = c.and.new.self in
    let test = c.complement.ensures.there one
    (lit_on old one c.args.test c.in_ok-first.ensures.grows c.requires.test) in
    let right = lit_on old one c.args.b c.in_ok-first.ensures.grows c.requires.right in
    (c.in_ok-second.ensures.made _ _ (made_self one c.complement.result test) (made_self one c.args.b right)).there

pub returns-clause-made : goal.returns-clause-made
returns-clause-made c = λ t f h s p q.
    let old = c.args.gates.now in
    let one = c.and.new.self in
    let two = c.and-2.new.self in
    let first = made_on one two (λ x. t x && f x) c.in_ok-first.first c.in_ok-second.ensures.grows
    (c.in_ok-first.ensures.made t f s p) in
    let other = made_other one t c.args.test c.complement.result (c.complement.ensures.there one)
    (c.complement.ensures.turned one) (made_on old one t c.args.test c.in_ok-first.ensures.grows s) in
    let right = made_on old one h c.args.b c.in_ok-first.ensures.grows q in
    let second = c.in_ok-second.ensures.made (λ x. not (t x)) h other right in
    made_by c.either.new.gates (λ x. (t x && f x) || (not (t x) && h x))
    (λ x. pick (t x) (f x) (h x)) c.in_ok-chosen.chosen
    (λ x. pick_of (t x) (f x) (h x)) (c.in_ok-chosen.ensures.made (λ x. t x && f x)
    (λ x. not (t x) && h x) first second)
