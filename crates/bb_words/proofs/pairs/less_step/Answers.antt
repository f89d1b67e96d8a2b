use Rattle.std.specs.Prelude.{◌≡◌, refl, Bool, true, false, not, ◌&&◌, ◌||◌}
use Rattle.bb_aig.specs.Bits.{differ, pick}
use Rattle.bb_aig.proofs.Growth.{made_by, made_on, made_other, made_self, lit_on, grows_on}
use Rattle.bb_words.proofs.pairs.less_step.Goals as goal

-- less, or not above and less so far
less_of : (a b r : Bool) → ((not a && b) || (not (a && not b) && r)) ≡ pick (differ a b) b r
less_of true true r = refl
less_of true false r = refl
less_of false true r = refl
less_of false false r = refl

pub and-requires-2-clause-right : goal.and-requires-2-clause-right
and-requires-2-clause-right c =
    c.complement-2.ensures.there c.and.new.self
    (lit_on c.args.gates.now c.and.new.self c.args.b c.in_ok-below.ensures.grows c.requires.right)

pub and-requires-3-clause-left : goal.and-requires-3-clause-left
and-requires-3-clause-left c =
    let one = c.and.new.self in
    let left = lit_on c.args.gates.now one c.args.a c.in_ok-below.ensures.grows c.requires.left in
    let right = lit_on c.args.gates.now one c.args.b c.in_ok-below.ensures.grows c.requires.right in
    c.complement-3.ensures.there c.and-2.new.self
    (c.in_ok-above.ensures.made _ _ (made_self one c.args.a left)
    (made_self one c.complement-2.result (c.complement-2.ensures.there one right))).there

pub and-requires-3-clause-right : goal.and-requires-3-clause-right
and-requires-3-clause-right c =
    lit_on c.args.gates.now c.and-2.new.self c.args.less
    (grows_on c.args.gates.now c.and.new.self c.and-2.new.self c.in_ok-below.ensures.grows c.in_ok-above.ensures.grows)
    c.requires.below

pub either-requires-clause-left : goal.either-requires-clause-left
either-requires-clause-left c =
    let old = c.args.gates.now in
    let left = c.complement.ensures.there old c.requires.left in
    lit_on c.and.new.self c.and-3.new.self c.in_ok-below.below
    (grows_on c.and.new.self c.and-2.new.self c.and-3.new.self c.in_ok-above.ensures.grows c.in_ok-still.ensures.grows)
    (c.in_ok-below.ensures.made _ _ (made_self old c.complement.result left)
    (made_self old c.args.b c.requires.right)).there

pub either-requires-clause-right : goal.either-requires-clause-right
either-requires-clause-right c =
    let old = c.args.gates.now in
    let one = c.and.new.self in
    let two = c.and-2.new.self in
    let left = lit_on old one c.args.a c.in_ok-below.ensures.grows c.requires.left in
    let right = lit_on old one c.args.b c.in_ok-below.ensures.grows c.requires.right in
    let above =
    (c.in_ok-above.ensures.made _ _ (made_self one c.args.a left)
    (made_self one c.complement-2.result (c.complement-2.ensures.there one right))).there in
    let less =
    lit_on old two c.args.less
    (grows_on old one two c.in_ok-below.ensures.grows c.in_ok-above.ensures.grows) c.requires.below in
    (c.in_ok-still.ensures.made _ _ (made_self two c.complement-3.result (c.complement-3.ensures.there two above))
    (made_self two c.args.less less)).there

pub returns-clause-made : goal.returns-clause-made
returns-clause-made c = λ f h k p q r.
    let old = c.args.gates.now in
    let one = c.and.new.self in
    let two = c.and-2.new.self in
    let three = c.and-3.new.self in
    let not_a = c.complement.ensures in
    let not_b = c.complement-2.ensures in
    let not_above = c.complement-3.ensures in
    let first = c.in_ok-below.ensures.grows in
    let second = c.in_ok-above.ensures.grows in
    let third = c.in_ok-still.ensures.grows in
    let below = c.in_ok-below.ensures.made (λ x. not (f x)) h
    (made_other old f c.args.a c.complement.result (not_a.there old) (not_a.turned old) p) q in
    let above = c.in_ok-above.ensures.made f (λ x. not (h x)) (made_on old one f c.args.a first p)
    (made_other one h c.args.b c.complement-2.result (not_b.there one) (not_b.turned one)
    (made_on old one h c.args.b first q)) in
    let still = c.in_ok-still.ensures.made (λ x. not (f x && not (h x))) k
    (made_other two (λ x. f x && not (h x)) c.in_ok-above.above c.complement-3.result (not_above.there two)
    (not_above.turned two) above)
    (made_on old two k c.args.less (grows_on old one two first second) r) in
    made_by c.either.new.gates (λ x. (not (f x) && h x) || (not (f x && not (h x)) && k x))
    (λ x. pick (differ (f x) (h x)) (h x) (k x))
    c.in_ok-next.next (λ x. less_of (f x) (h x) (k x))
    (c.in_ok-next.ensures.made (λ x. not (f x) && h x) (λ x. not (f x && not (h x)) && k x)
    (made_on one three (λ x. not (f x) && h x) c.in_ok-below.below (grows_on one two three second third) below) still)
