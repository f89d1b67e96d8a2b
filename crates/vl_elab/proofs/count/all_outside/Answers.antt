use Rattle.std.proofs.Common.{arith, get_or}
use Rattle.std.proofs.lemmas.Option.{slice_get-get_or}
use Rattle.vl_elab.proofs.Counting.{mask_more, masks_end}
use Rattle.vl_elab.specs.Bits.{all_outside}
use Rattle.vl_elab.proofs.count.all_outside.Goals as goal

pub loop-mask-init : goal.loop-mask-init
loop-mask-init c = record { count = omega arith; few = omega arith }

pub overflow_add-count : goal.overflow_add-count
overflow_add-count c =
    omega (
      arith,
      c.loop-mask.invariant.few,
      c.loop-mask-test.true,
      c.requires.few,
      c.requires.width,
      c.bits_outside-count.ensures.few,
    )

pub loop-mask-preserved : goal.loop-mask-preserved
loop-mask-preserved c =
    let ms = c.args.masks.now in
    let i = c.loop-mask.mask-index in
    record {
      count = mask_more c.args.width ms i (get_or ms i 0) c.loop-mask.count c.bits_outside-count.result
          (all_outside c.args.width ms) (slice_get-get_or ms i 0 c.loop-mask-test.true)
          c.bits_outside-count.ensures.value c.loop-mask.invariant.count;
      few = omega (arith, c.loop-mask.invariant.few, c.requires.width, c.bits_outside-count.ensures.few);
    }

pub returns-clause-value : goal.returns-clause-value
returns-clause-value c =
    masks_end c.args.width c.args.masks.now c.loop-mask.mask-index c.loop-mask.count
    (all_outside c.args.width c.args.masks.now) (omega (arith, c.loop-mask-test.false)) c.loop-mask.invariant.count

pub returns-clause-few : goal.returns-clause-few
returns-clause-few c = omega (arith, c.loop-mask.invariant.few, c.loop-mask.auto.mask-index-end)
