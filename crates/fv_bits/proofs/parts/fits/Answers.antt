use Rattle.std.specs.Prelude.{◌/◌, ◌^◌}
use Rattle.std.proofs.Common.{arith, refl, eq-eqb}
use Rattle.std.proofs.lemmas.Bool.Decides.{nat_tests}
use Rattle.fv_bits.proofs.Limits.{within_wide, none_left, left_of_fits}
use Rattle.fv_bits.proofs.parts.fits.Goals as goal

pub returns-then-width-ge128 : goal.returns-then-width-ge128
returns-then-width-ge128 c =
    (λ e. within_wide c.args.number c.args.width c.ranges.number.fits c.if-width-ge128.true, λ h. refl)

pub returns : goal.returns
returns c = (
  λ e. none_left c.args.number c.args.width (grind (arith, nat_tests, e)),
  λ h. eq-eqb (c.args.number / 2 ^ c.args.width) 0 (left_of_fits c.args.number c.args.width h),
)
