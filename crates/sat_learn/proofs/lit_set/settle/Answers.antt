use Rattle.std.proofs.Common.{◌-◌, ◌<◌, length, cond, ap, ◌∙◌, arith}
use Rattle.std.specs.Ordering.{int_eq}
use Rattle.sat_trail.specs.Trail.{place_of}
use Rattle.sat_learn.proofs.Placings.{kept_here}
use Rattle.sat_learn.proofs.lit_set.settle.Goals as goal

pub returns-then-place-lits-clause-moved : goal.returns-then-place-lits-clause-moved
returns-then-place-lits-clause-moved c = λ h l.
    let inside : c.args.place - 1 < length c.args.lits.now = omega (arith, h, c.requires.some) in
    c.change.ensures l ∙ ap (λ z. cond (int_eq z l) c.args.place (place_of c.args.places.now l))
    (kept_here c.args.lits.now (c.args.place - 1) c.requires.lits inside)
