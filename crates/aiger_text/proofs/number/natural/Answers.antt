use Rattle.std.proofs.Common.{sym, refl, get_or, min, arith}
use Rattle.std.specs.Prelude.{option_map}
use Rattle.aiger_text.specs.declared.number.TheConstants.{MOST}
use Rattle.fv_lines.specs.Numbers.{continued}
use Rattle.fv_lines.proofs.Naturals.{digit_more}
use Rattle.aiger_text.proofs.number.natural.Goals as goal

pub loop-digit-preserved : goal.loop-digit-preserved
loop-digit-preserved c = (
  omega (arith, c.continued-value.ensures),
  digit_more MOST c.loop-digit.value c.continued-value.result c.args.digits.now c.loop-digit.digit-index
      (get_or c.args.digits.now c.loop-digit.digit-index 0) (option_map (min MOST) (continued 0 c.args.digits.now))
      c.loop-digit-test.true refl (sym c.if-not-is_digit.ensures) c.continued-value.ensures c.loop-digit.invariant.1,
)
