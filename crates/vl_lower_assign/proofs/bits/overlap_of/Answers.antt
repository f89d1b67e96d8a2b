use Rattle.std.specs.Prelude.{ℤ}
use Rattle.std.proofs.Common.{arith, subst}
use Rattle.std.proofs.lemmas.Int.{ints}
use Rattle.vl_lower_assign.specs.Overlap.{IsOverlap}
use Rattle.vl_lower_assign.proofs.bits.overlap_of.Goals as goal

pub returns-then-place-lt0-clause-some : goal.returns-then-place-lt0-clause-some
returns-then-place-lt0-clause-some c = c.below_zero.ensures c.args.place (omega (arith, ints))

pub returns-clause-some : goal.returns-clause-some
returns-clause-some c =
    let o = c.from_zero.result in
    let P : ℤ → Type 0 = λ p. IsOverlap c.args.count c.args.width p o.from o.past o.skip in
    subst P (omega (arith, ints)) c.from_zero.ensures
