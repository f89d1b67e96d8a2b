use Rattle.std.proofs.Common.{◌<◌, arith}
use Rattle.vl_size.proofs.PlaceLemmas.{next_fits_128}
use Rattle.vl_size.proofs.place.+bits_from.Goals as goal

pub overflow_mul-result : goal.overflow_mul-result
overflow_mul-result t c =
    let some : 0 < c.args.count = grind (arith, c.if-count-eq0.false) in
    omega (arith, next_fits_128 c.args.count c.bits_from.result some c.requires.count c.bits_from.ensures.fits)

pub overflow_add-result : goal.overflow_add-result
overflow_add-result t c =
    let some : 0 < c.args.count = grind (arith, c.if-count-eq0.false) in
    omega (
      arith,
      c.bit_at.ensures.fits,
      next_fits_128 c.args.count c.bits_from.result some c.requires.count
          c.bits_from.ensures.fits,
    )
