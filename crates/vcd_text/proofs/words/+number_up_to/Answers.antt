use Rattle.std.proofs.Common.{◌∙◌, sym, ap, arith}
use Rattle.std.proofs.lemmas.List.{nil_from_length}
use Rattle.vcd_dump.specs.Digits.{number}
use Rattle.vcd_text.proofs.Written.{number_writes, one_digit, too_long, no_high, zero_high, no_low, whole, is_nil}
use Rattle.vcd_text.proofs.Written.{is_filled}
use Rattle.vcd_text.proofs.words.+number_up_to.Goals as goal

pub returns-in_default : goal.returns-in_default
returns-in_default t c = λ n l e. (number_writes c.args.base c.requires.low).filled n
    (sym e ∙ nil_from_length c.args.digits.now c.in_default.ensures.cases)

pub returns-then-is_empty : goal.returns-then-is_empty
returns-then-is_empty t c = one_digit
    (number_writes c.args.base c.requires.low) c.args.digits.now c.in-Some.higher.now c.in-Some.digit.now c.args.most
    c.in-Some.ensures.cases.0
    (is_nil c.is_empty.result c.in-Some.higher.now c.is_empty.ensures c.if-is_empty.true) c.digit_up_to.result
    c.digit_up_to.ensures

pub returns-then-most-base : goal.returns-then-most-base
returns-then-most-base t c = too_long
    (number_writes c.args.base c.requires.low) c.args.digits.now c.in-Some.higher.now c.in-Some.digit.now c.args.most
    c.in-Some.ensures.cases.0
    (is_filled c.is_empty.result c.in-Some.higher.now c.is_empty.ensures c.if-is_empty.false) c.if-most-base.true

pub returns-in_default-number_up_to : goal.returns-in_default-number_up_to
returns-in_default-number_up_to t c = no_high
    (number_writes c.args.base c.requires.low) c.args.digits.now c.in-Some.higher.now c.in-Some.digit.now c.args.most
    c.in-Some.ensures.cases.0
    (is_filled c.is_empty.result c.in-Some.higher.now c.is_empty.ensures c.if-is_empty.false)
    c.in_default-number_up_to.ensures

pub returns-then-high-eq0 : goal.returns-then-high-eq0
returns-then-high-eq0 t c = let h = c.in-Some-number_up_to.ensures
    in zero_high (number_writes c.args.base c.requires.low) c.args.digits.now c.in-Some.higher.now
    c.in-Some.digit.now c.args.most c.in-Some.ensures.cases.0
    (is_filled c.is_empty.result c.in-Some.higher.now c.is_empty.ensures c.if-is_empty.false)
    (h.1 ∙ ap (number c.args.base) c.if-high-eq0.true)

pub returns-in_default-digit_up_to : goal.returns-in_default-digit_up_to
returns-in_default-digit_up_to t c = let h = c.in-Some-number_up_to.ensures
    in no_low (number_writes c.args.base c.requires.low) c.args.digits.now c.in-Some.higher.now c.in-Some.digit.now
    c.args.most c.in-Some-number_up_to.high c.in-Some.ensures.cases.0
    (is_filled c.is_empty.result c.in-Some.higher.now c.is_empty.ensures c.if-is_empty.false) h.1
    c.in_default-digit_up_to.ensures

pub returns : goal.returns
returns t c = let k = c.in-Some-number_up_to.ensures in let h = c.in-Some-digit_up_to.ensures
    in whole (number_writes c.args.base c.requires.low) c.args.digits.now c.in-Some.higher.now c.in-Some.digit.now
    c.args.most c.in-Some-number_up_to.high c.in-Some-digit_up_to.low c.in-Some.ensures.cases.0 k.1
    (omega (arith, c.if-high-eq0.false)) k.0 h.0 h.1 h.2
