use Rattle.std.specs.Prelude.{not}
use Rattle.bb_aig.specs.Bits.{differ}
use Rattle.bb_aig.proofs.Growth.{made_on, made_other, made_self}
use Rattle.bb_words.proofs.pairs.same_step.Goals as goal

pub and-requires-clause-right : goal.and-requires-clause-right
and-requires-clause-right c =
    let old = c.args.gates.now in
    c.complement.ensures.there c.differ.new.gates
    (c.in_ok-other.ensures.made _ _ (made_self old c.args.a c.requires.left)
    (made_self old c.args.b c.requires.right)).there

pub returns-clause-made : goal.returns-clause-made
returns-clause-made c = λ f h k p q r.
    let old = c.args.gates.now in
    let one = c.differ.new.gates in
    let other = c.in_ok-other.ensures.made f h p q in
    c.in_ok-next.ensures.made k (λ x. not (differ (f x) (h x)))
    (made_on old one k c.args.same c.in_ok-other.ensures.grows r)
    (made_other one (λ x. differ (f x) (h x)) c.in_ok-other.other c.complement.result (c.complement.ensures.there one)
    (c.complement.ensures.turned one) other)
