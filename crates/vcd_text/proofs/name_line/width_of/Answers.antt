use Rattle.std.proofs.Common.{◌∙◌, sym, arith}
use Rattle.vcd_text.proofs.Names.{no_width, zero_width, width_is}
use Rattle.vcd_text.proofs.name_line.width_of.Goals as goal

pub returns-in_default : goal.returns-in_default
returns-in_default c = no_width c.args.digits.now c.in_default.ensures

pub returns-then-width-eq0 : goal.returns-then-width-eq0
returns-then-width-eq0 c =
    let h = c.in-Some.ensures in zero_width c.args.digits.now c.in-Some.width h.1 c.if-width-eq0.true

pub returns : goal.returns
returns c =
    let h = c.in-Some.ensures in (omega (arith, c.if-width-eq0.false), h.0, h.1 ∙ sym (width_is c.in-Some.width h.0))
