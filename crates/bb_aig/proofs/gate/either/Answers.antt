use Rattle.std.specs.Prelude.{not, ◌&&◌, ◌||◌}
use Rattle.bb_aig.proofs.Growth.{made_by, made_other, or_of}
use Rattle.bb_aig.proofs.gate.either.Goals as goal

pub returns-clause-made : goal.returns-clause-made
returns-clause-made c = λ f h p q.
    let old = c.args.gates.now in
    let new = c.and.new.self in
    let one = c.complement.ensures in
    let two = c.complement-2.ensures in
    let last = c.complement-3.ensures in
    let left = made_other old f c.args.a c.complement.result (one.there old) (one.turned old) p in
    let right = made_other old h c.args.b c.complement-2.result (two.there old) (two.turned old) q in
    let neither = c.in_ok-neither.ensures.made (λ x. not (f x)) (λ x. not (h x)) left right in
    made_by new (λ x. not (not (f x) && not (h x))) (λ x. f x || h x) c.complement-3.result (λ x. or_of (f x) (h x))
    (made_other new (λ x. not (f x) && not (h x)) c.in_ok-neither.neither c.complement-3.result (last.there new)
    (last.turned new) neither)
